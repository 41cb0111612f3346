-- What starts with the scheme has its eight bytes.
use Prim.Native.Nat.{ℕ, ◌+◌, ◌-◌, ◌≤◌, ◌<◌}
use mathlib.Core.Path.{◌≡◌, refl, ◌∙◌, ap}
use mathlib.Core.Bool.{Bool, true, false}
use mathlib.Core.List.{List}
use native.Mathlib.Omega.{arith, by_contra}
use borrow.Author.Tests.{eqb-true, not-true, not-false}
use lib.ListN.{length, take, drop, get_or, get_or-eq_default}
use Rattle.laws.proofs.Least.{nowhere-at}
use Rattle.laws.specs.Pick.{pick, both}
use Rattle.laws.specs.Ascii.{ascii}
use Rattle.laws.specs.Pasted.{part}
use Rattle.json_tokens.specs.Scan.{past_while}
use Rattle.std.specs.Prelude.{position}
use Rattle.std.specs.Option.{unwrap_or}
use Rattle.list_address.specs.Chars.{one_of}
use Rattle.list_address.proofs.Scans.{first-or}
use Rattle.list_address.proofs.Tails.{tail_all}
use lib.Seq.{drop-drop}
use Rattle.list_address.specs.Https.{lower, differs_at, has_scheme, authority_end}

zero-lower : lower 0 ≡ 0
unfolding lower pick both
zero-lower = refl

pub scheme-long : (x : List ℕ) → has_scheme x ≡ true → 8 ≤ length x
unfolding has_scheme differs_at
scheme-long x e = by_contra 8 (length x) (λ out. short (omega arith))
  where
    slash : lower (get_or x 7 0) ≡ 47
    slash = eqb-true _ 47 (not-false _ (nowhere-at _ 8 7 (not-true _ e) (omega arith)))

    short : length x ≤ 7 → ⊥
    short l = omega (arith, slash, ap lower (get_or-eq_default x 0 l), zero-lower)

pub scheme-short : (x : List ℕ) → length x < 8 → false ≡ has_scheme x
scheme-short x h = by (has_scheme x) refl
  where
    by : (t : Bool) → has_scheme x ≡ t → false ≡ t
    by true e = let l = scheme-long x e in absurd (omega arith)
    by false e = refl

-- the authority and what follows it, as code cuts them from what stands behind the scheme
module _ (x : List ℕ) {behind : List ℕ} {e : ℕ} (tail : behind ≡ drop 8 x)
    (ends : e ≡ unwrap_or (position (one_of (ascii "/?#")) (drop 8 x)) (length (drop 8 x))) where
  ended : 8 + e ≡ authority_end x
  unfolding past_while
  ended = ap (λ n. 8 + n) (ends ∙ first-or (one_of (ascii "/?#")) (drop 8 x))

  pub authority-part : take e behind ≡ part 8 (authority_end x) x
  authority-part = let n : e ≡ authority_end x - 8 = omega (arith, ended) in rw (tail, n) refl

  pub rest-part : take (length behind - e) (drop e behind) ≡ drop (authority_end x) x
  rest-part = tail_all e behind ∙ ap (drop e) tail ∙ drop-drop e 8 x ∙ ap (λ n. drop n x) ended
