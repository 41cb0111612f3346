-- When servers agree, and on what, as sentences.
use Rattle.refusal.specs.declared.Refusal.{Refusal}
use Rattle.std.specs.Prelude.{Err, Ok, Result}
use mathlib.Core.Path.{◌≡◌, refl, sym, ap, ◌∙◌}
use mathlib.Core.Bool.{Bool, true, false, cond}
use mathlib.Core.List.{List}
use mathlib.Core.Logic.{◌↔◌}
use Prim.Native.Nat.{ℕ, ◌-◌, ◌≤◌, ◌<◌, min}
use native.Mathlib.Omega.{arith, by_contra}
use lib.Dec.{leb}
use borrow.Author.Tests.{leb-true, leb-false, le-leb, lt-leb}
use Rattle.laws.specs.Least.{least, somewhere}
use Rattle.laws.proofs.Holds.{holds-exactly}
use Rattle.laws.proofs.Least.{somewhere-at, somewhere-here, nowhere, nowhere-at, least_first}
use Rattle.refusal.specs.Refusal.{refusal}
use Rattle.clock_spans.specs.Drift.{last}
use Rattle.clock_spans.specs.declared.Span.{Span}
use Rattle.clock_agreement.specs.Meaning.{Agrees, Disagrees}
use Rattle.clock_agreement.specs.Count.{points, count_of, depth_of, enough, lowest_of, highest_of}
use Rattle.clock_agreement.specs.Agreement.{agreed_by, agreement_of, number}
use Rattle.clock_agreement.specs.declared.Agreed.{Agreed}
use Rattle.clock_agreement.proofs.Edges.{down}

-- the first point at which p holds is no later than any
least-before : (p : ℕ → Bool) (n x : ℕ) → x < n → p x ≡ true → (least p n ≤ x) × (p (least p n) ≡ true)
least-before p n x h y =
    let s = somewhere-at p n (somewhere-here p n x h y) in
    let f = least_first p n refl s.0 in
    (by_contra (least p n) x (λ l. f.earlier x l ((holds-exactly _).0 y)), s.1)

module _ (rs : List Span) (n : ℕ) where
  -- every point that lies in n spans lies between the ends, and so do the ends
  module _ (x : ℕ) (h : x ≤ last) (y : n ≤ depth_of rs x) where
    low-least : (lowest_of rs n ≤ x) × (n ≤ depth_of rs (lowest_of rs n))
    unfolding lowest_of
    low-least =
        let l = least-before (enough rs n) points x (omega arith) (le-leb n _ y) in
        let e : min last (least (enough rs n) points) ≡ least (enough rs n) points = omega (arith, l.0) in
        (omega (arith, l.0), leb-true n _ (ap (enough rs n) e ∙ l.1))

    high-most : (x ≤ highest_of rs n) × (n ≤ depth_of rs (highest_of rs n))
    unfolding highest_of
    high-most =
        let e : last - (last - x) ≡ x = omega arith in
        let l =
        least-before (down (enough rs n)) points (last - x) (omega arith) (ap (enough rs n) e ∙ le-leb n _ y) in
        (omega (arith, l.0), leb-true n _ l.1)

  low_fits : lowest_of rs n ≤ last
  unfolding lowest_of
  low_fits = omega arith

module _ (rs : List Span) (f : ℕ) where
  abbrev n : ℕ
  n = count_of rs - f

  abbrev some : Bool
  some = somewhere (enough rs n) points

  abbrev answer : Bool → Bool → Result Agreed Refusal
  answer a b = cond a (Err (refusal 33)) (cond b (Ok (agreed_by rs n)) (Err (refusal 34)))

  agrees : f < count_of rs → some ≡ true → Agrees rs f (agreed_by rs n)
  agrees more e =
      let s = somewhere-at (enough rs n) points e in
      let y = leb-true n _ s.1 in
      let h : least (enough rs n) points ≤ last = omega (arith, s.0) in
      let b = low_fits rs n in
      record {
        more = more;
        from_in = (low-least rs n _ h y).1;
        to_in = (high-most rs n _ h y).1;
        none_below =
            λ x l.
            by_contra _ _ (λ m. omega (arith, l, b, (low-least rs n x (omega (arith, l, b)) (omega (arith, m))).0));
        none_above = λ x l i. by_contra _ _ (λ m. omega (arith, l, (high-most rs n x i (omega (arith, m))).0));
        is = refl;
      }

  -- what is found is what all but f of the servers agree on
  pub found-exactly : (a : Agreed) → agreement_of rs f ≡ Ok a → Agrees rs f a
  unfolding agreement_of
  found-exactly a e = by (leb (count_of rs) f) some refl refl e
    where
      by : (p q : Bool) → leb (count_of rs) f ≡ p → some ≡ q → answer p q ≡ Ok a → Agrees rs f a
      by true q g h r = absurd (omega (arith, ap number r))
      by false true g h r = let i : agreed_by rs n ≡ a = cc in rw i at (agrees (leb-false (count_of rs) f g) h)
      by false false g h r = absurd (omega (arith, ap number r))

  -- 33 exactly where no more servers are counted than may lie
  pub few-exactly : number (agreement_of rs f) ≡ 33 ↔ count_of rs ≤ f
  unfolding agreement_of
  few-exactly = (to (leb (count_of rs) f) some refl, λ h. rw (le-leb (count_of rs) f h) refl)
    where
      to : (a b : Bool) → leb (count_of rs) f ≡ a → number (answer a b) ≡ 33 → count_of rs ≤ f
      to true b p e = leb-true (count_of rs) f p
      to false true p e = absurd (omega (arith, e))
      to false false p e = absurd (omega (arith, e))

  -- 34 exactly where more are, and no point lies in the spans of all but f of them
  pub none-exactly : number (agreement_of rs f) ≡ 34 ↔ Disagrees rs f
  unfolding agreement_of
  none-exactly = (to (leb (count_of rs) f) some refl refl, back)
    where
      to : (a b : Bool) → leb (count_of rs) f ≡ a → some ≡ b → number (answer a b) ≡ 34 → Disagrees rs f
      to true b p q e = absurd (omega (arith, e))
      to false true p q e = absurd (omega (arith, e))
      to false false p q e = record {
        more = leb-false (count_of rs) f p;
        no-point = λ x h. leb-false n _ (nowhere-at (enough rs n) points x q (omega arith));
      }

      back : Disagrees rs f → number (answer (leb (count_of rs) f) some) ≡ 34
      back h =
          rw (
            lt-leb (count_of rs) f h.more,
            nowhere (enough rs n) points (λ x l. lt-leb n _ (h.no-point x (omega arith))),
          )
          refl

  -- there is no other refusal
  pub other-number : (m : ℕ) → number (agreement_of rs f) ≡ m → (m ≡ 33 → ⊥) → (m ≡ 34 → ⊥) → m ≡ 0
  unfolding agreement_of
  other-number m e p q = by (leb (count_of rs) f) some e
    where
      by : (a b : Bool) → number (answer a b) ≡ m → m ≡ 0
      by true b g = absurd (p (sym g))
      by false true g = sym g
      by false false g = absurd (q (sym g))

  pub not-26 : number (agreement_of rs f) ≡ 26 → ⊥
  not-26 e = let z = other-number 26 e (λ q. omega (arith, q)) (λ q. omega (arith, q)) in omega (arith, z)
