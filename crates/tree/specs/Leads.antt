-- That a path leads from a leaf to a root, as a sentence (draft 19, 5.3.1; document 01, "Hash and tree"; request P2).
-- `leads_of` of PathCheck is proved to hold exactly where it does.
use Rattle.std.specs.Prelude.{◌≡◌, List, ℕ, ◌+◌, ◌*◌, ◌/◌, ◌%◌, ◌^◌, ◌≤◌, ◌<◌, length}
use Rattle.hash.specs.Hashes.{parent_of}
use Rattle.tree.specs.Tree.{node_in}

-- bit i of INDX: "The bits of INDX are ordered from least to most significant."
abbrev pub bit_of : ℕ → ℕ → ℕ
bit_of indx i = indx / 2 ^ i % 2

-- the siblings of PATH lead from the leaf to the root, by the bits of INDX
pub record Leads (leaf : List ℕ) (indx : ℕ) (path root : List ℕ) : Type 0 where
  -- PATH is n siblings of 32 bytes, at most 32; sibling i is `node_in path i`
  pub n : ℕ
  pub siblings : length path ≡ 32 * n
  pub few : n ≤ 32
  -- there is a chain of values h, the first of which is the leaf
  pub h : ℕ → List ℕ
  pub first : h 0 ≡ leaf
  -- each next is the parent of the one before it: where the bit is 0, H(0x01, h, sibling);
  pub bit-0 : (i : ℕ) → i < n → bit_of indx i ≡ 0 → h (i + 1) ≡ parent_of (h i) (node_in path i)
  -- where it is 1, H(0x01, sibling, h)
  pub bit-1 : (i : ℕ) → i < n → bit_of indx i ≡ 1 → h (i + 1) ≡ parent_of (node_in path i) (h i)
  -- the last is the root
  pub last : h n ≡ root
  -- and no bit of INDX is left
  pub bits : indx < 2 ^ n
