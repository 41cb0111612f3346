-- The two questions as sentences: first of any numbers and keys, and then of what the response check answered.
use Rattle.refusal.specs.declared.Refusal.{Refusal}
use Rattle.std.specs.Prelude.{Err, Ok, Result}
use Prim.Native.Nat.{ℕ, ◌≤◌}
use mathlib.Core.Path.{◌≡◌, refl, sym, subst, ap, ap₂, ◌∙◌}
use mathlib.Core.Bool.{Bool, true, ◌&&◌}
use mathlib.Core.List.{List}
use mathlib.Core.Logic.{◌↔◌}
use borrow.Author.Tests.{eq-eqb, eqb-true, le-leb, leb-true}
use Rattle.laws.specs.Bytes.{Bytes}
use Rattle.laws.proofs.Holds.{both}
use Rattle.laws.proofs.Same.{same_refl, same_true}
use Rattle.wire_packet.specs.Packet.{body}
use Rattle.wire_packet.specs.Response.{mint_in, maxt_in}
use Rattle.check_response.specs.Check.{check_code, window_in, pubk_in, verdict_of, key_of, verdict_number}
use Rattle.check_response.specs.Passes.{Passes}
use Rattle.check_response.specs.declared.Window.{Window}
use Rattle.check_response.proofs.Exactly.{code-exactly, window-own}
use Rattle.check_response.proofs.Lent.{verdict-says, valid-by, key-by}
use Rattle.check_reuse.specs.Reuse.{may_use, same_dele, same_delegation}
use Rattle.check_reuse.specs.declared.Delegation.{Delegation}

-- a window may be used exactly where the answer is valid and the time is MAXT or earlier
pub use-exactly : (number maxt time : ℕ) → may_use number maxt time ≡ true ↔ ((number ≡ 0) × (time ≤ maxt))
unfolding may_use
use-exactly number maxt time = (
  λ e. let p = both _ _ e in (eqb-true _ _ p.0, leb-true _ _ p.1),
  λ h. ap₂ ◌&&◌ (eq-eqb number 0 h.0) (le-leb time maxt h.1),
)

-- a DELE of these three
abbrev pub holding : List ℕ → ℕ → ℕ → Delegation
holding pubk mint maxt = record { pubk = pubk; mint = mint; maxt = maxt }

-- two DELE hold the same exactly where they are equal: PUBK, MINT and MAXT
pub dele-exactly : (dele other : Delegation) → same_dele dele other ≡ true ↔ (dele ≡ other)
unfolding same_dele
dele-exactly dele other = (
  λ e.
      let p = both _ _ e in
      let q = both _ _ p.1 in
      ap₂ (λ (pubk : List ℕ) (mint : ℕ). holding pubk mint dele.maxt) (same_true _ _ q.1) (eqb-true _ _ p.0)
      ∙ ap (holding other.pubk other.mint) (eqb-true _ _ q.0),
  λ e. rw (e, eq-eqb other.mint other.mint refl, eq-eqb other.maxt other.maxt refl)
      (same_refl other.pubk),
)

-- two answers come from one delegation exactly where both are valid and their DELE are equal
pub delegation-exactly : (first : ℕ) (dele : Delegation) (second : ℕ) (other : Delegation)
    → same_delegation first dele second other ≡ true ↔ ((first ≡ 0) × (second ≡ 0) × (dele ≡ other))
unfolding same_delegation
delegation-exactly first dele second other = (
  λ e.
      let p = both _ _ e in
      let q = both _ _ p.1 in
      (eqb-true _ _ p.0, eqb-true _ _ q.0, (dele-exactly dele other).0 q.1),
  λ h. rw (eq-eqb first 0 h.0, eq-eqb second 0 h.1) ((dele-exactly dele other).1 h.2),
)

-- ---- of the answers of the check

-- PUBK, MINT and MAXT of the DELE in a response's message
abbrev pub dele_in : List ℕ → Delegation
dele_in b = holding (pubk_in b) (mint_in b) (maxt_in b)

-- what an answer hands out of DELE: MINT and MAXT of its window, or zeros, and the key beside it
abbrev beside : Result Window Refusal → List ℕ → Delegation
beside (Ok w) key = holding key w.mint w.maxt
beside (Err why) key = holding key 0 0

-- the number of an answer, 0 where the response passes, and then what it hands out of DELE is the response's own
module _ (q p : List ℕ) (d s : Bool) where
  abbrev number : ℕ
  number = verdict_number (verdict_of q p d s)

  number_is : number ≡ (check_code q p d s).code
  unfolding verdict_of
  number_is = verdict-says (check_code q p d s) _

  passed : Bytes q → Bytes p → number ≡ 0 ↔ Passes q p d s
  passed b c = (λ z. (code-exactly q p d s b c).0 (sym number_is ∙ z), λ ok. number_is ∙ (code-exactly q p d s b c).1 ok)

  -- what is handed out: the key, and MINT and MAXT of the window
  abbrev pub handed_out : Delegation
  handed_out = beside (verdict_of q p d s) (key_of q p d s)

  handed-is : number ≡ 0 → handed_out ≡ dele_in (body p)
  unfolding verdict_of key_of window_in
  handed-is z =
      let why = check_code q p d s in
      let e = sym number_is ∙ z in
      ap₂ beside (valid-by why (window_in (body p)) e) (key-by why (pubk_in (body p)) e)

  -- a window that was handed out may be used exactly up to the MAXT of the response's own DELE
  pub window-until : (w : Window) (time : ℕ) → verdict_of q p d s ≡ Ok w
      → may_use number w.maxt time ≡ true ↔ (time ≤ maxt_in (body p))
  unfolding window_in
  window-until w time e =
      let own : w.maxt ≡ maxt_in (body p) = ap (λ (x : Window). x.maxt) (window-own q p d s w e) in (
        λ u. subst (λ (m : ℕ). time ≤ m) own ((use-exactly _ _ _).0 u).1,
        λ h. (use-exactly _ _ _).1 (ap verdict_number e, subst (λ (m : ℕ). time ≤ m) (sym own) h),
      )

-- two answers come from one delegation exactly where both responses pass and their DELE hold one PUBK, MINT and MAXT
pub one-delegation : (q p : List ℕ) (d s : Bool) (r o : List ℕ) (e t : Bool) → Bytes q → Bytes p → Bytes r → Bytes o
    → same_delegation (number q p d s) (handed_out q p d s) (number r o e t) (handed_out r o e t) ≡ true
    ↔ (Passes q p d s × Passes r o e t × (dele_in (body p) ≡ dele_in (body o)))
one-delegation q p d s r o e t q-bytes p-bytes r-bytes o-bytes = (
  λ same.
      let h = (delegation-exactly _ _ _ _).0 same in (
        (passed q p d s q-bytes p-bytes).0 h.0,
        (passed r o e t r-bytes o-bytes).0 h.1,
        sym (handed-is q p d s h.0) ∙ h.2 ∙ handed-is r o e t h.1,
      ),
  λ h.
      let z = (passed q p d s q-bytes p-bytes).1 h.0 in
      let y = (passed r o e t r-bytes o-bytes).1 h.1 in
      (delegation-exactly _ _ _ _).1 (z, y, handed-is q p d s z ∙ h.2 ∙ sym (handed-is r o e t y)),
)
