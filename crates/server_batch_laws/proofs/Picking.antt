-- What is picked at a place at which a test holds.
use mathlib.Core.Bool.{Bool, true, false, cond}
use mathlib.Core.List.{List, [], ◌∷◌, ◌++◌}
use mathlib.Core.Path.{◌≡◌, sym, ap, ◌∙◌}
use Prim.Native.Nat.{ℕ, zero, suc, ◌+◌, ◌<◌}
use native.Mathlib.Omega.{arith}
use lib.ListN.{length, get_or, get_or-append}
use lib.Seq.{get_or-append-add}
use Rattle.laws.proofs.Split.{split}
use Rattle.server_batch.specs.Picking.{how_many, picked}
use Rattle.server_batch.proofs.Left.{picked-length}
use Rattle.server_batch.proofs.Picked.{many_below}

-- what is picked at a place stands behind what is picked before it
pub picked-at : (p : ℕ → Bool) (f : ℕ → List ℕ) (i : ℕ) (d : List ℕ) → p i ≡ true → (n : ℕ) → i < n
    → get_or (picked p f n) (how_many p i) d ≡ f i
unfolding picked
picked-at p f i d holds zero h = absurd (omega arith)
picked-at p f i d holds (suc n) h =
    split n i
    (λ g.
    let e : i ≡ n = omega arith in
    let t : p n ≡ true = ap p (sym e) ∙ holds in
    rw (t, e) (last n))
    (λ g. earlier (p n) n g (picked-at p f i d holds n g))
  where
    last : (n : ℕ) → get_or (picked p f n ++ (f n ∷ [])) (how_many p n) d ≡ f n
    last n =
        let e : how_many p n ≡ length (picked p f n) + 0 = omega (arith, picked-length p f n) in
        ap (λ k. get_or (picked p f n ++ (f n ∷ [])) k d) e ∙ get_or-append-add (picked p f n) (f n ∷ []) 0 d

    earlier : (t : Bool) (n : ℕ) → i < n → get_or (picked p f n) (how_many p i) d ≡ f i
        → get_or (cond t (picked p f n ++ (f n ∷ [])) (picked p f n)) (how_many p i) d ≡ f i
    earlier true n g e =
        get_or-append (picked p f n) (f n ∷ []) d (how_many p i)
        (omega (arith, picked-length p f n, many_below p i holds n g))
        ∙ e
    earlier false n g e = e
