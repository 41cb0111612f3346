-- What the checks that passed say of the response that was lent.
use Rattle.std.specs.Prelude.{Err, Ok, Result}
use Prim.Native.Nat.{ℕ, ◌≤◌}
use mathlib.Core.Path.{◌≡◌, refl, sym, ap, ap₂, ◌∙◌}
use mathlib.Core.Bool.{Bool, true, false, cond}
use mathlib.Core.List.{List}
use native.Mathlib.Omega.{arith}
use borrow.Author.Tests.{eq-eqb, ne_eqb, eqb-true}
use lib.Dec.{eqb}
use lib.ListN.{length}
use Rattle.refusal.specs.Refusal.{refusals}
use Rattle.refusal.specs.declared.Refusal.{Refusal}
use Rattle.laws.proofs.First.{quiet_of, row-quiet, chosen-says}
use Rattle.wire_packet.specs.Blank.{zeros32}
use Rattle.wire_packet.specs.Facts.{Shaped}
use Rattle.wire_packet.specs.Packet.{body}
use Rattle.wire_packet.proofs.ResponseCodes.{response-body}
use Rattle.check_response.specs.declared.Checked.{Checked}
use Rattle.check_response.specs.declared.Window.{Window}
use Rattle.check_response.specs.Check.{window_in, pubk_in, check_code, verdict_by, verdict_of, key_by, key_of, checked_of}
use Rattle.check_response.specs.Check.{verdict_number}

-- a response that passes has the right shape
pub checked-body : (q p : List ℕ) (d s : Bool) {x : Refusal} → x ≡ check_code q p d s → x.code ≡ 0
    → (12 ≤ length p) × Shaped (body p)
unfolding check_code
checked-body q p d s e z =
    let a = row-quiet refusals _ _ (quiet_of refusals e z) in
    response-body p _ refl (row-quiet refusals _ _ a.1).0

-- ---- an answer by its refusal

-- it has the refusal's number,
pub verdict-says : (why : Refusal) (w : Window) → verdict_number (verdict_by why w) ≡ why.code
verdict-says why w = chosen-says verdict_number (Ok w) (Err why) why.code refl refl

-- is a window exactly where the number is 0, and then it is the window that was meant
pub by-valid : (why : Refusal) (w v : Window) → verdict_by why w ≡ Ok v → (why.code ≡ 0) × (v ≡ w)
by-valid why w v e = by (eqb why.code 0) refl e
  where
    by : (t : Bool) → eqb why.code 0 ≡ t → cond t (Ok w) (Err why) ≡ Ok v → (why.code ≡ 0) × (v ≡ w)
    by true h f = (eqb-true _ _ h, cc)
    by false h f = let z : ◌≡◌ {A = ℕ} 0 1 = cc in absurd (omega arith)

pub valid-by : (why : Refusal) (w : Window) → why.code ≡ 0 → verdict_by why w ≡ Ok w
valid-by why w z = rw (eq-eqb why.code 0 z)

-- and a refusal exactly where it is another, and then it is that one
pub by-refused : (why : Refusal) (w : Window) (x : Refusal) → verdict_by why w ≡ Err x → why.code ≡ 0 → ⊥
by-refused why w x e z =
    let f : Ok w ≡ Err x = sym (valid-by why w z) ∙ e in
    let n : ◌≡◌ {A = ℕ} 0 1 = cc in
    omega arith

pub refused-by : (why : Refusal) (w : Window) → (why.code ≡ 0 → ⊥) → verdict_by why w ≡ Err why
refused-by why w n = rw (ne_eqb why.code 0 n)

-- ---- the key beside an answer

-- where nothing is refused it is the key that was meant,
pub key-by : (why : Refusal) (key : List ℕ) → why.code ≡ 0 → key_by why key ≡ key
key-by why key z = rw (eq-eqb why.code 0 z)

-- and where something is, 32 zero bytes
pub no_key : (why : Refusal) (key : List ℕ) → (why.code ≡ 0 → ⊥) → key_by why key ≡ zeros32
no_key why key n = rw (ne_eqb why.code 0 n)

-- ---- the check's answer

module _ (q p : List ℕ) (d s : Bool) {x : Refusal} (e : x ≡ check_code q p d s) where
  -- its two clauses, of a verdict and a key: the number is that of the first check that refuses
  abbrev Clauses : Result Window Refusal → List ℕ → Type 0
  Clauses v key =
      (verdict_number v ≡ (check_code q p d s).code)
      × (◌≡◌ {A = Checked} (record { verdict = v; pubk = key }) (checked_of q p d s))

  both-clauses : {v : Result Window Refusal} {key : List ℕ} → v ≡ verdict_of q p d s → key ≡ key_of q p d s → Clauses v key
  unfolding verdict_of
  both-clauses f g = (
    ap verdict_number f ∙ verdict-says (check_code q p d s) (window_in (body p)),
    ap₂ (λ (v : Result Window Refusal) (key : List ℕ). record { verdict = v; pubk = key }) f g,
  )

  -- a refusal comes with 32 zero bytes,
  pub refused-clauses : (x.code ≡ 0 → ⊥) → Clauses (Err x) zeros32
  unfolding verdict_of key_of
  refused-clauses n =
      let m : (check_code q p d s).code ≡ 0 → ⊥ = λ z. n (quiet_of refusals (sym e) z) in
      both-clauses (ap Err e ∙ sym (refused-by _ _ m)) (sym (no_key (check_code q p d s) _ m))

  -- and a window, the response's own, with its own key
  pub valid-clauses : {w : Window} {key : List ℕ} → x.code ≡ 0 → w ≡ window_in (body p) → key ≡ pubk_in (body p)
      → Clauses (Ok w) key
  unfolding verdict_of key_of
  valid-clauses z f g =
      let m = quiet_of refusals e z in
      both-clauses (ap Ok f ∙ sym (valid-by (check_code q p d s) _ m)) (g ∙ sym (key-by (check_code q p d s) _ m))
