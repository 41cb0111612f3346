-- The check of a path (draft 19, 5.3.1; document 01, "Hash and tree", and request P2). Leads is the same as a sentence.
use Rattle.std.specs.Prelude.{Bool, ◌&&◌, List, [], ◌∷◌, ℕ, zero, suc, ◌/◌, ◌%◌, ◌^◌, eqb, ltb, leb, length}
use Rattle.laws.specs.Same.{same}
use Rattle.hash.specs.Hashes.{parent_of}
use Rattle.tree.specs.Tree.{nodes_in}

-- one step up, by a bit of INDX: 0 gives H(0x01, h, sibling), and 1 gives H(0x01, sibling, h)
unfoldable pub step : ℕ → List ℕ → List ℕ → List ℕ
step zero h sibling = parent_of h sibling
step (suc _) h sibling = parent_of sibling h

-- from h up, over the siblings, with the bits of INDX from its lowest
unfoldable pub climb : ℕ → List ℕ → List (List ℕ) → List ℕ
climb indx h [] = h
climb indx h (sibling ∷ siblings) = climb (indx / 2) (step (indx % 2) h sibling) siblings

-- where the whole siblings in the bytes of PATH lead from a leaf
unfoldable pub reached : List ℕ → ℕ → List ℕ → List ℕ
reached leaf indx path = climb indx leaf (nodes_in (length path / 32) path)

-- the whole check: PATH is 0 to 32 whole siblings; INDX needs no more bits than there are siblings; they lead to ROOT
unfoldable pub leads_of : List ℕ → ℕ → List ℕ → List ℕ → Bool
leads_of leaf indx path root =
    eqb (length path % 32) 0 && leb (length path / 32) 32 && ltb indx (2 ^ (length path / 32))
    && same (reached leaf indx path) root
