-- Every starred example of document 01 holds. A test that antt computes decides a row, and one law turns the test into
-- what the row claims.
use mathlib.Core.Path.{◌≡◌, refl, subst, ◌∙◌}
use mathlib.Core.Bool.{Bool, true, false, ◌&&◌, beq}
use mathlib.Core.List.{List, [], ◌∷◌}
use Prim.Native.Nat.{ℕ, ◌*◌, ◌^◌}
use native.Mathlib.Omega.{arith}
use lib.Dec.{T, eqb, ltb, leb, eqb→eq, ltb→lt, leb→le}
use mir.Facts.{and_yes}
use Rattle.laws.specs.Any.{any}
use Rattle.laws.specs.First.{first_of, when_of}
use Rattle.laws.specs.Least.{least, somewhere}
use Rattle.laws.specs.Numbers.{le}
use Rattle.refusal.specs.declared.Refusal.{Refusal}
use Rattle.wire_message.specs.Frame.{offset, length_bad, count_bad, frame_code}
use Rattle.tree.specs.Tree.{depth_of}
use Rattle.tree_build.specs.Leaves.{count_of}
use Rattle.pile_runs.specs.Clash.{windows_clash}
use Rattle.examples.specs.Claims.{Row, low_end, high_end, contradicts, run, no_run, depth, path, indx, at-maxt}
use Rattle.examples.specs.Claims.{above-maxt, message, equal-tags, ◌and◌, Claim, Refuses}
use Rattle.examples.specs.Table.{table, Each}
use Rattle.examples.proofs.Cutting.{run_on, is_from, is_none, run-found, none_found}
use Rattle.examples.proofs.Building.{batch-rooted, batch-path}
use Rattle.examples.proofs.Checking.{large-misses, large-refused, in-time-passes, late-refused}
use Rattle.examples.proofs.Reading.{frame-refuses, equal-refuses}

-- the bytes of n leaves are n leaves, of a tree of depth d
abbrev batch : ℕ → ℕ → Bool
batch n d = eqb (count_of (32 * n)) n && eqb (depth_of n) d

abbrev test : Row → Bool
test (low_end w n) = eqb w.low n
test (high_end w n) = eqb w.high n
test (contradicts a b answer) = beq (windows_clash a b) answer
test (run vs i j) = is_from (run_on vs) i j
test (no_run vs code) = is_none (run_on vs) && eqb 18 code
test (depth n d) = batch n d && ltb 0 n
test (path n place i d) = batch n d && (ltb place n && eqb place i)
test (indx i n code) = leb (2 ^ n) i && eqb 10 code
test at-maxt = true
test (above-maxt k code) = ltb 0 k && eqb 11 code
test (message m code) = ltb 0 code && eqb (frame_code m).code code
test (equal-tags code) = eqb 5 code
test (r and s) = test r && test s

beq_same : (a b : Bool) → T (beq a b) → a ≡ b
beq_same true true t = refl
beq_same true false t = absurd t
beq_same false true t = absurd t
beq_same false false t = refl

batched : (n d : ℕ) → T (batch n d) → (count_of (32 * n) ≡ n) × (depth_of n ≡ d)
batched n d t =
    let u = and_yes (eqb (count_of (32 * n)) n) (eqb (depth_of n) d) t in
    (eqb→eq _ n u.0, eqb→eq _ d u.1)

passes : (r : Row) → T (test r) → Claim r
passes (low_end w n) t = eqb→eq _ n t
passes (high_end w n) t = eqb→eq _ n t
passes (contradicts a b answer) t = beq_same _ answer t
passes (run vs i j) t = run-found vs i j t
passes (no_run vs code) t =
    let u = and_yes (is_none (run_on vs)) (eqb 18 code) t in
    rw (← eqb→eq 18 code u.1) (none_found vs u.0)
passes (depth n d) t =
    let u = and_yes (batch n d) (ltb 0 n) t in
    let b = batched n d u.0 in
    λ s long. batch-rooted n d b.0 b.1 s long (ltb→lt 0 n u.1)
passes (path n place i d) t =
    let u = and_yes (batch n d) (ltb place n && eqb place i) t in
    let b = batched n d u.0 in
    let w = and_yes (ltb place n) (eqb place i) u.1 in
    λ s room long h. batch-path n d b.0 b.1 s long place i room (ltb→lt place n w.0) (eqb→eq place i w.1) h
passes (indx i n code) t =
    let u = and_yes (leb (2 ^ n) i) (eqb 10 code) t in
    let large = leb→le (2 ^ n) i u.0 in
    (large-misses i n large, λ q p d s c. large-refused i n large q p d s c ∙ eqb→eq 10 code u.1)
passes at-maxt t = λ q p c. in-time-passes q p c.before c.leads c.from (omega (arith, c.above))
passes (above-maxt k code) t =
    let u = and_yes (ltb 0 k) (eqb 11 code) t in
    let some = ltb→lt 0 k u.0 in (
    λ q p d s c.
    late-refused q p c.before c.leads c.from d s (omega (arith, c.above)) ∙ eqb→eq 11 code u.1
    )
passes (message m code) t =
    let u = and_yes (ltb 0 code) (eqb (frame_code m).code code) t in
    frame-refuses m code (ltb→lt 0 code u.0) (eqb→eq _ code u.1)
passes (equal-tags code) t =
    λ m h. subst (λ (n : ℕ). Refuses m n) (eqb→eq 5 code t) (equal-refuses m h)
passes (r and s) t = let u = and_yes (test r) (test s) t in (passes r u.0, passes s u.1)

abbrev all_pass : List Row → Bool
all_pass [] = true
all_pass (r ∷ rs) = test r && all_pass rs

each : (rs : List Row) → T (all_pass rs) → Each rs
each [] t = tt
each (r ∷ rs) t = let u = and_yes (test r) (all_pass rs) t in (passes r u.0, each rs u.1)

-- every row of the table holds
pub starred : (why : Refusal) → Each (table why)
unfolding when_of first_of any least somewhere le count_of depth_of frame_code length_bad count_bad offset
starred why = each (table why) tt
