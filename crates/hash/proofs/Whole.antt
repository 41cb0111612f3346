-- A leaf and a link whose bytes come in pieces are those of the whole, however it is cut (P5).
use mathlib.Core.Path.{◌≡◌, ap, ◌∙◌}
use mathlib.Core.List.{List, [], ◌∷◌, ◌++◌, append-nil}
use Prim.Native.Nat.{ℕ, ◌+◌, ◌^◌, ◌<◌}
use native.Mathlib.Omega.{arith}
use lib.ListN.{length, take, length-append}
use Rattle.laws.specs.Flat.{flat}
use Rattle.laws.proofs.Flat.{flat_append}
use Rattle.sha512.specs.Computation.{Sha512}
use Rattle.sha512.specs.State.{state_of, state_digest}
use Rattle.sha512.specs.Whole.{after_all}
use Rattle.sha512.proofs.State.{digest-is}
use Rattle.sha512.proofs.Whole.{after-all, taken-all, pieces_whole}
use Rattle.hash.specs.Hashes.{H32, leaf_of, link_of, hash_of}

-- a leaf: from the start of a leaf, the pieces of the packet
pub leaf-whole : (ps : List (List ℕ)) → length (flat ps) + 1 < 2 ^ 64
    → hash_of (after_all (state_of (0x00 ∷ [])) ps) ≡ leaf_of (flat ps)
unfolding hash_of leaf_of H32
leaf-whole ps l =
    ap (λ (m : List ℕ). take 32 m)
    (ap state_digest
    (after-all ps (0x00 ∷ []) (omega arith)
    ∙ ap (λ (m : List ℕ). state_of (0x00 ∷ m)) (taken-all ps (0x00 ∷ []) (omega arith)))
    ∙ digest-is (0x00 ∷ flat ps) (omega arith))

-- a link: from the start of a message, the pieces of the response, and then the rand as one piece
pub link-whole : (ps : List (List ℕ)) (rand : List ℕ) → length (flat ps) + length rand < 2 ^ 64
    → hash_of (after_all (state_of []) (ps ++ (rand ∷ []))) ≡ link_of (flat ps) rand
unfolding hash_of link_of H32 flat
link-whole ps rand l =
    let all : flat (ps ++ (rand ∷ [])) ≡ flat ps ++ rand =
    (flat_append ps (rand ∷ []) ∙ ap (λ (x : List ℕ). flat ps ++ x) (append-nil rand)) in
    let long : length (flat ps ++ rand) ≡ length (flat ps) + length rand = length-append (flat ps) rand in
    let fits : length (flat (ps ++ (rand ∷ []))) < 2 ^ 64 = omega (arith, ap length all) in
    ap (take 32) (pieces_whole (ps ++ (rand ∷ [])) fits ∙ ap Sha512 all)
