-- Byte strings by their first and last bytes, as patterns take them apart.
use Prim.Native.Nat.{ℕ, ◌-◌, ◌≤◌, ◌<◌}
use mathlib.Core.Path.{◌≡◌, refl, ap, sym, ◌∙◌}
use mathlib.Core.Bool.{Bool, true, false}
use mathlib.Core.List.{List}
use native.Mathlib.Omega.{arith}
use borrow.Author.Tests.{eq-eqb, ne_eqb}
use lib.Dec.{eqb}
use Rattle.std.proofs.lemmas.Bool.{cases_eq}
use mathlib.Core.Logic.{◌⊎◌, inl, inr}
use lib.ListN.{length, get_or, take, drop}
use Rattle.laws.specs.Pick.{pick, both}
use Rattle.json_tokens.proofs.Picks.{over}
use Rattle.list_address.specs.Host.{is_ipv6, is_bracketed, is_name, is_domain, is_host}
use Rattle.list_address.specs.Https.{is_ended}

module _ (s : List ℕ) where
  pub bracketed_in : {t : Bool} → 2 ≤ length s → get_or s 0 0 ≡ 91 → get_or s (length s - 1) 0 ≡ 93
      → t ≡ is_ipv6 (take (length s - 1 - 1) (drop 1 s)) → t ≡ is_bracketed s
  unfolding is_bracketed both
  bracketed_in h e f g = rw (eq-eqb _ 91 e, eq-eqb _ 93 f) g

  pub bracketed_first : (get_or s 0 0 ≡ 91 → ⊥) → false ≡ is_bracketed s
  unfolding is_bracketed both
  bracketed_first e = rw (ne_eqb _ 91 e) refl

  both_none : (t : Bool) → false ≡ both t false
  unfolding both
  both_none true = refl
  both_none false = refl

  pub bracketed_last : (get_or s (length s - 1) 0 ≡ 93 → ⊥) → false ≡ is_bracketed s
  unfolding is_bracketed both
  bracketed_last e =
      both_none (eqb (get_or s 0 0) 91)
      ∙ ap (both (eqb (get_or s 0 0) 91)) (sym (ap (λ t. both t (is_ipv6 (take (length s - 1 - 1) (drop 1 s)))) (ne_eqb _ 93 e)))

  -- the first byte is not the last
  pub bracketed_short : length s < 2 → false ≡ is_bracketed s
  bracketed_short h = by (cases_eq (get_or s 0 0) 91)
    where
      by : ((get_or s 0 0 ≡ 91) ⊎ (get_or s 0 0 ≡ 91 → ⊥)) → false ≡ is_bracketed s
      by (inl e) = bracketed_last (λ f. let z : length s - 1 ≡ 0 = omega arith in omega (arith, e, ap (λ k. get_or s k 0) z, f))
      by (inr e) = bracketed_first e

  pub ended_in : {t : Bool} → get_or s (length s - 1) 0 ≡ 58 → t ≡ is_host (take (length s - 1) s) → t ≡ is_ended s
  unfolding is_ended both
  ended_in e h = rw (eq-eqb _ 58 e) h

  pub ended_last : (get_or s (length s - 1) 0 ≡ 58 → ⊥) → false ≡ is_ended s
  unfolding is_ended both
  ended_last e = rw (ne_eqb _ 58 e) refl

  pub ended_short : length s < 1 → false ≡ is_ended s
  ended_short h = ended_last (λ e. let o = over {at = length s - 1} s refl (omega (arith, e)) in omega (arith, o))

  pub dotted : {t : Bool} → get_or s (length s - 1) 0 ≡ 46 → t ≡ is_name (take (length s - 1) s) → t ≡ is_domain s
  unfolding is_domain pick
  dotted e h = rw (eq-eqb _ 46 e) h

  pub undotted : {t : Bool} → (get_or s (length s - 1) 0 ≡ 46 → ⊥) → t ≡ is_name s → t ≡ is_domain s
  unfolding is_domain pick
  undotted e h = rw (ne_eqb _ 46 e) h

  pub none-dotted : length s < 1 → get_or s (length s - 1) 0 ≡ 46 → ⊥
  none-dotted h e = let o = over {at = length s - 1} s refl (omega (arith, e)) in omega (arith, o)
