-- There is one answer and no other. A search that antt can compute shows that there is one.
use Rattle.check_response.specs.declared.Window.{Window}
use Rattle.refusal.specs.declared.Refusal.{Refusal}
use Rattle.std.specs.Prelude.{None, Option, Result, Some}
use mathlib.Core.Path.{◌≡◌, refl, sym, subst, ap₂}
use mathlib.Core.Bool.{Bool, true, false, ◌&&◌}
use Prim.Native.Nat.{ℕ, zero, suc, ◌+◌, ◌-◌, ◌≤◌, ◌<◌}
use native.Mathlib.Nat.{add-zero}
use native.Mathlib.Omega.{arith}
use lib.Dec.{T, eqb}
use mir.Facts.{and_yes, yes_and}
use Rattle.laws.specs.Pairs.{IsLeast, Hits}
use Rattle.pile_runs.proofs.Passed.{Passed, begin, step, next, found, nothing}
use Rattle.pile_runs.specs.Clash.{valid, contradicting}
use Rattle.pile_runs.specs.Spans.{Answers, SomePair, span_number}
use Rattle.pile_runs.specs.Told.{Tells}
use Rattle.pile_runs.specs.Convict.{Clean, Convicts}
use Rattle.pile_runs.specs.Searched.{Exposes}
use Rattle.pile_runs.proofs.ByEnds.{clean-one, clean-more, clean-part, least-run, no_run}

-- One answer at most, for any relation that holds only of pairs in order.
pub once : (P : ℕ → ℕ → Type 0) → ((i j : ℕ) → P i j → i ≤ j) → (r s : Option (ℕ × ℕ)) → Answers P r → Answers P s → r ≡ s
once P ordered (Some (a, b)) (Some (c, d)) m n =
    let p = ordered a b m.holds in
    let q = ordered c d n.holds in
    let u = m.shortest c d n.holds in
    let v = n.shortest a b m.holds in
    let x = m.first c d n.holds (omega arith) in
    let y = n.first a b m.holds (omega arith) in
    ap₂ (λ (x y : ℕ). Some (x, y)) (omega arith) (omega arith)
once P ordered (Some (a, b)) None m n = absurd (n a b m.holds)
once P ordered None (Some (c, d)) m n = absurd (m c d n.holds)
once P ordered None None m n = refl

-- An answer has document 01's number 0 exactly where P holds of some two places: both clauses of the search.
pub both-clauses : (P : ℕ → ℕ → Type 0) (r : Option (ℕ × ℕ)) → Answers P r → Tells (eqb (span_number r) 0) (SomePair P) × Answers P r
both-clauses P (Some (a, b)) m = (record { a = a; b = b; holds = m.holds }, m)
both-clauses P None m = (λ h. m h.a h.b h.holds, m)

-- one of two answers, by a flag
abbrev pub pick : Bool → Option (ℕ × ℕ) → Option (ℕ × ℕ) → Option (ℕ × ℕ)
pick true a b = a
pick false a b = b

-- an answer, and where it is nothing, another
abbrev pub or_else : Option (ℕ × ℕ) → Option (ℕ × ℕ) → Option (ℕ × ℕ)
or_else (Some (a, b)) s = Some (a, b)
or_else None s = s

-- The first pair that passes a test h, by distance and then by start: among the f pairs that are d apart and start at
-- i, i + 1 and so on,
abbrev pub row : (ℕ → ℕ → Bool) → ℕ → ℕ → ℕ → Option (ℕ × ℕ)
row h d zero i = None
row h d (suc f) i = pick (h i (i + d)) (Some (i, (i + d))) (row h d f (i + 1))

-- among the pairs below n that lie d apart, d + 1 and so on, f distances in all,
abbrev pub rows : (ℕ → ℕ → Bool) → ℕ → ℕ → ℕ → Option (ℕ × ℕ)
rows h n zero d = None
rows h n (suc f) d = or_else (row h d (n - d) 0) (rows h n f (d + 1))

-- and among all pairs below n
abbrev pub least_of : (ℕ → ℕ → Bool) → ℕ → Option (ℕ × ℕ)
least_of h n = rows h n n 1

-- What the search finds, where h tests Q.
module _ (Q : ℕ → ℕ → Type 0) (h : ℕ → ℕ → Bool) (n : ℕ)
    (sound : (i j : ℕ) → i < j → T (h i j) → Q i j) (whole : (i j : ℕ) → i < j → Q i j → T (h i j)) where
  abbrev RowSays : ℕ → Option (ℕ × ℕ) → Type 0
  RowSays d (Some (a, b)) = IsLeast (Hits Q n) a b
  RowSays d None = Passed Q n d (n - d)

  row-says : (d f i : ℕ) → Passed Q n d i → i + f ≡ n - d → RowSays d (row h d f i)
  row-says d zero i p e = subst (λ (k : ℕ). Passed Q n d k) (omega arith) p
  row-says d (suc f) i p e = go (λ q. row-says d f (i + 1) q (omega arith)) (h i (i + d)) refl
    where
      go : (Passed Q n d (i + 1) → RowSays d (row h d f (i + 1))) → (b : Bool) → h i (i + d) ≡ b
          → RowSays d (pick b (Some (i, (i + d))) (row h d f (i + 1)))
      go more true t = found p (omega arith) (sound i (i + d) (omega (arith, p.some)) (subst T (sym t) tt))
      go more false t = more (step p (λ q. subst T t (whole i (i + d) (omega (arith, p.some)) q)))

  rows-say : (f d : ℕ) → Passed Q n d 0 → n ≤ f + d → Answers (Hits Q n) (rows h n f d)
  rows-say zero d p l = nothing p (omega arith)
  rows-say (suc f) d p l =
      go (λ q. rows-say f (d + 1) q (omega arith)) (row h d (n - d) 0) (row-says d (n - d) 0 p (omega arith))
    where
      go : (Passed Q n (d + 1) 0 → Answers (Hits Q n) (rows h n f (d + 1))) → (s : Option (ℕ × ℕ)) → RowSays d s
          → Answers (Hits Q n) (or_else s (rows h n f (d + 1)))
      go more (Some (x, y)) m = m
      go more None p' = more (next p' (omega arith))

  pub least-says : Answers (Hits Q n) (least_of h n)
  least-says = rows-say n 1 begin (omega arith)

-- The run that the cutter finds, computed. The run of record a and the d records after it is clean:
abbrev pub clean_test : (ℕ → Result Window Refusal) → (ℕ → Bool) → ℕ → ℕ → Bool
clean_test v l a zero = valid (v a)
clean_test v l a (suc d) = clean_test v l a d && (valid (v (a + d + 1)) && l (a + d + 1))

-- the run from i to j is clean and its ends contradict:
abbrev pub exposes_test : (ℕ → Result Window Refusal) → (ℕ → Bool) → ℕ → ℕ → Bool
exposes_test v l i j = clean_test v l i (j - i) && contradicting (v i) (v j)

-- so this is the run
abbrev pub run_of : (ℕ → Result Window Refusal) → (ℕ → Bool) → ℕ → Option (ℕ × ℕ)
run_of v l n = least_of (exposes_test v l) n

module _ (v : ℕ → Result Window Refusal) (l : ℕ → Bool) where
  clean-sound : (a d : ℕ) → T (clean_test v l a d) → Clean v l a (a + d)
  clean-sound a zero t = subst (λ (k : ℕ). Clean v l a k) (sym (add-zero a)) (clean-one v l a t)
  clean-sound a (suc d) t =
      let u = and_yes (clean_test v l a d) (valid (v (a + d + 1)) && l (a + d + 1)) t in
      let w = and_yes (valid (v (a + d + 1))) (l (a + d + 1)) u.1 in
      let e : a + d + 1 ≡ a + suc d = omega arith in
      subst (λ (k : ℕ). Clean v l a k) e (clean-more v l a (a + d) (clean-sound a d u.0) w.0 w.1)

  clean-whole : (a d : ℕ) → Clean v l a (a + d) → T (clean_test v l a d)
  clean-whole a zero c = c.all_valid a (omega arith) (omega arith)
  clean-whole a (suc d) c =
      yes_and (clean_test v l a d) (valid (v (a + d + 1)) && l (a + d + 1))
      (clean-whole a d (clean-part v l a (a + suc d) a (a + d) c (omega arith) (omega arith)))
      (yes_and (valid (v (a + d + 1))) (l (a + d + 1))
      (c.all_valid (a + d + 1) (omega arith) (omega arith)) (c.all-linked (a + d + 1) (omega arith) (omega arith)))

  exposes-sound : (i j : ℕ) → i < j → T (exposes_test v l i j) → Exposes v l i j
  exposes-sound i j o t =
      let u = and_yes (clean_test v l i (j - i)) (contradicting (v i) (v j)) t in
      let e : i + (j - i) ≡ j = omega arith in
      record { clean = subst (λ (k : ℕ). Clean v l i k) e (clean-sound i (j - i) u.0); clash = u.1 }

  exposes-whole : (i j : ℕ) → i < j → Exposes v l i j → T (exposes_test v l i j)
  exposes-whole i j o x =
      let e : j ≡ i + (j - i) = omega arith in
      yes_and (clean_test v l i (j - i)) (contradicting (v i) (v j))
      (clean-whole i (j - i) (subst (λ (k : ℕ). Clean v l i k) e x.clean)) x.clash

  run-says : (n : ℕ) (s : Option (ℕ × ℕ)) → Answers (Hits (Exposes v l) n) s → Answers (Convicts v l n) s
  run-says n (Some (a, b)) m = least-run m
  run-says n None m = no_run m

  -- there is an answer, and `run_of` computes it
  pub run-exists : (n : ℕ) → Answers (Convicts v l n) (run_of v l n)
  run-exists n = run-says n (run_of v l n) (least-says (Exposes v l) (exposes_test v l) n exposes-sound exposes-whole)

  -- any two are the same
  pub run_settled : (n : ℕ) (r s : Option (ℕ × ℕ)) → Answers (Convicts v l n) r → Answers (Convicts v l n) s → r ≡ s
  run_settled n = once (Convicts v l n) (λ a b c. omega (arith, c.from, c.order, c.to))
