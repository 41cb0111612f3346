-- What `read_report` answers, exactly: 24 where the text is no report, 25 where it is one of a wrong amount, 19 where
-- the buffer is too short for its records, and else how many there are.
use Rattle.refusal.specs.declared.Refusal.{Refusal}
use Rattle.std.specs.Prelude.{Err, Ok, Result}
use Prim.Native.Nat.{ℕ, ◌*◌, ◌≤◌, ◌<◌}
use mathlib.Core.Path.{◌≡◌, refl, sym, ◌∙◌, ap}
use mathlib.Core.Bool.{Bool, true, false}
use mathlib.Core.List.{List, [], ◌∷◌}
use mathlib.Core.Logic.{◌↔◌}
use native.Mathlib.Omega.{arith}
use borrow.Author.Tests.{eqb-true, eqb-false, ltb-true, ltb-false}
use lib.Dec.{eqb, ltb}
use lib.ListN.{length}
use Rattle.laws.specs.Pick.{pick, either}
use Rattle.refusal.specs.Refusal.{refusal}
use Rattle.report_read.specs.Entry.{Entry, Entries, these, unread, entries_of}
use Rattle.report_read.specs.Read.{read_number, is_big, any_big, read_of}
use Rattle.report_read.proofs.Elements.{neither_left, neither_right}
use Rattle.report_laws.specs.Reported.{ReportText, Small, all_small_lem, small-then, RightAmount}
use Rattle.report_laws.specs.Reported.{Big, big-request, big-response, big-later}
use Rattle.report_laws.specs.Reported.{WrongAmount, no-entry, too_many, too_long, Amiss, Crowded, Readable}
use Rattle.report_laws.proofs.Reported.{report-found, report-read, unread-exactly}

-- ---- packets
none-big : (es : List Entry) → any_big es ≡ false → Small es
unfolding any_big is_big
none-big [] h = all_small_lem
none-big (e ∷ es) h =
    let p = neither_left _ _ h in
    small-then (ltb-false _ _ (neither_left _ _ p)) (ltb-false _ _ (neither_right _ _ p))
    (none-big es (neither_right _ _ h))

one-big : (es : List Entry) → any_big es ≡ true → Big es
unfolding any_big is_big either
one-big [] h = let z : ◌≡◌ {A = ℕ} 0 1 = cc in absurd (omega arith)
one-big (e ∷ es) h =
    by (λ g. one-big es g) (ltb 2000 (length e.request)) refl (ltb 2000 (length e.response)) refl h
  where
    by : (any_big es ≡ true → Big es) → (p : Bool) → ltb 2000 (length e.request) ≡ p → (q : Bool)
        → ltb 2000 (length e.response) ≡ q → either (either p q) (any_big es) ≡ true → Big (e ∷ es)
    by more true a q b h = big-request (ltb-true _ _ a)
    by more false a true b h = big-response (ltb-true _ _ b)
    by more false a false b h = big-later (more h)

not-both : {es : List Entry} → Small es → Big es → ⊥
not-both all_small_lem b = elim b [ ]
not-both (small-then q a s) (big-request b) = omega (arith, q, b)
not-both (small-then q a s) (big-response b) = omega (arith, a, b)
not-both (small-then q a s) (big-later b) = not-both s b

-- an amount is right or wrong, not both
right-wrong : {es : List Entry} → RightAmount es → WrongAmount es → ⊥
right-wrong r (no-entry h) = omega (arith, r.some, h)
right-wrong r (too_many h) = omega (arith, r.few, h)
right-wrong r (too_long b) = not-both r.small b

-- ---- what is answered of entries
data Case (es : List Entry) (room : ℕ) : Result ℕ Refusal → Type 0 where
  amiss : WrongAmount es → Case es room (Err (refusal 25))
  crowded : RightAmount es → room < length es * 4096 → Case es room (Err (refusal 19))
  fine : RightAmount es → length es * 4096 ≤ room → Case es room (Ok (length es))

more-than : (n : ℕ) → (n ≡ 0 → ⊥) → 0 < n
more-than n h = omega (arith, h)

case : (es : List Entry) (room : ℕ) → Case es room (read_of (these es) room)
unfolding read_of pick
case es room =
    by (eqb (length es) 0) refl (ltb 16 (length es)) refl (any_big es) refl (ltb room (length es * 4096)) refl
  where
    right : eqb (length es) 0 ≡ false → ltb 16 (length es) ≡ false → any_big es ≡ false → RightAmount es
    right e f g = record {
      some = more-than (length es) (eqb-false _ 0 e);
      few = ltb-false 16 _ f;
      small = none-big es g;
    }

    by : (a : Bool) → eqb (length es) 0 ≡ a → (b : Bool) → ltb 16 (length es) ≡ b → (c : Bool) → any_big es ≡ c
        → (d : Bool) → ltb room (length es * 4096) ≡ d
        → Case es room
        (pick a (Err (refusal 25))
        (pick b (Err (refusal 25))
        (pick c (Err (refusal 25)) (pick d (Err (refusal 19)) (Ok (length es))))))
    by true e b f c g d h = amiss (no-entry (eqb-true _ 0 e))
    by false e true f c g d h = amiss (too_many (ltb-true 16 _ f))
    by false e false f true g d h = amiss (too_long (one-big es g))
    by false e false f false g true h = crowded (right e f g) (ltb-true room _ h)
    by false e false f false g false h = fine (right e f g) (ltb-false room _ h)

wrong-then : {es : List Entry} {room : ℕ} (x : Result ℕ Refusal) → Case es room x → WrongAmount es → x ≡ Err (refusal 25)
wrong-then x (amiss v) w = refl
wrong-then x (crowded r h) w = absurd (right-wrong r w)
wrong-then x (fine r h) w = absurd (right-wrong r w)

short-then : {es : List Entry} {room : ℕ} (x : Result ℕ Refusal) → Case es room x → RightAmount es → room < length es * 4096
    → x ≡ Err (refusal 19)
short-then x (amiss w) r h = absurd (right-wrong r w)
short-then x (crowded q g) r h = refl
short-then x (fine q g) r h = absurd (omega (arith, g, h))

right-then : {es : List Entry} {room : ℕ} (x : Result ℕ Refusal) → Case es room x → RightAmount es → length es * 4096 ≤ room
    → x ≡ Ok (length es)
right-then x (amiss w) r h = absurd (right-wrong r w)
right-then x (crowded q g) r h = absurd (omega (arith, g, h))
right-then x (fine q g) r h = refl

-- ---- what is answered of a text
data Told (s : List ℕ) (room : ℕ) : Result ℕ Refusal → Type 0 where
  no-report : ((es : List Entry) → ReportText s es → ⊥) → Told s room (Err (refusal 24))
  report-of : {x : Result ℕ Refusal} (es : List Entry) → ReportText s es → Case es room x → Told s room x

told : (s : List ℕ) (room : ℕ) → Told s room (read_of (entries_of s) room)
unfolding read_of
told s room = by (entries_of s) refl
  where
    by : (x : Entries) → entries_of s ≡ x → Told s room (read_of x room)
    by (these es) e = report-of es (report-found s es e) (case es room)
    by unread e = no-report ((unread-exactly s).0 e)

read-of : {s : List ℕ} (room : ℕ) {es : List Entry} → ReportText s es
    → read_of (entries_of s) room ≡ read_of (these es) room
read-of {s} room {es} r = ap (λ (x : Entries). read_of x room) (report-read s es r)

module _ (s : List ℕ) (room : ℕ) where
  -- 24: the text is no report
  pub no-report-exactly : (read_number (read_of (entries_of s) room) ≡ 24) ↔ ((es : List Entry) → ReportText s es → ⊥)
  no-report-exactly = (λ e. from _ (told s room) e, λ f. to _ (told s room) f)
    where
      from : (x : Result ℕ Refusal) → Told s room x → read_number x ≡ 24 → (es : List Entry) → ReportText s es → ⊥
      from x (no-report f) e = f
      from x (report-of es r (amiss w)) e = absurd (omega (arith, e))
      from x (report-of es r (crowded a h)) e = absurd (omega (arith, e))
      from x (report-of es r (fine a h)) e = absurd (omega (arith, e))

      to : (x : Result ℕ Refusal) → Told s room x → ((es : List Entry) → ReportText s es → ⊥) → read_number x ≡ 24
      to x (no-report g) f = refl
      to x (report-of es r c) f = absurd (f es r)

  -- 25: it is a report, of no entry, of more than 16, or with a packet above 2,000 bytes
  pub amount-exactly : (read_number (read_of (entries_of s) room) ≡ 25) ↔ Amiss s
  amount-exactly = (λ e. from _ (told s room) e, to)
    where
      from : (x : Result ℕ Refusal) → Told s room x → read_number x ≡ 25 → Amiss s
      from x (no-report f) e = absurd (omega (arith, e))
      from x (report-of es r (amiss w)) e = record { entries = es; report = r; wrong = w }
      from x (report-of es r (crowded a h)) e = absurd (omega (arith, e))
      from x (report-of es r (fine a h)) e = absurd (omega (arith, e))

      to : Amiss s → read_number (read_of (entries_of s) room) ≡ 25
      to a = ap read_number (read-of room a.report ∙ wrong-then _ (case a.entries room) a.wrong)

  -- 19: it is a report of a right amount, and the buffer has fewer than 4,096 bytes a record
  pub short-exactly : (read_number (read_of (entries_of s) room) ≡ 19) ↔ Crowded s room
  short-exactly = (λ e. from _ (told s room) e, to)
    where
      from : (x : Result ℕ Refusal) → Told s room x → read_number x ≡ 19 → Crowded s room
      from x (no-report f) e = absurd (omega (arith, e))
      from x (report-of es r (amiss w)) e = absurd (omega (arith, e))
      from x (report-of es r (crowded a h)) e = record { entries = es; report = r; right = a; short = h }
      from x (report-of es r (fine a h)) e = absurd (omega (arith, e))

      to : Crowded s room → read_number (read_of (entries_of s) room) ≡ 19
      to a = ap read_number (read-of room a.report ∙ short-then _ (case a.entries room) a.right a.short)

  -- and n records are read exactly where it is a report of n entries, 1 to 16, no packet is above 2,000 bytes, and the
  -- buffer has room for them
  pub read-exactly : (n : ℕ) → (read_of (entries_of s) room ≡ Ok n) ↔ Readable s room n
  read-exactly n = (λ e. from _ (told s room) e, to)
    where
      from : (x : Result ℕ Refusal) → Told s room x → x ≡ Ok n → Readable s room n
      from x (no-report f) e = let z : ◌≡◌ {A = ℕ} 0 1 = cc in absurd (omega arith)
      from x (report-of es r (amiss w)) e = let z : ◌≡◌ {A = ℕ} 0 1 = cc in absurd (omega arith)
      from x (report-of es r (crowded a h)) e = let z : ◌≡◌ {A = ℕ} 0 1 = cc in absurd (omega arith)
      from x (report-of es r (fine a h)) e =
          record { entries = es; report = r; right = a; enough = h; count = cc }

      to : Readable s room n → read_of (entries_of s) room ≡ Ok n
      to a =
          read-of room a.report ∙ right-then _ (case a.entries room) a.right a.enough
          ∙ ap Ok (sym a.count)
