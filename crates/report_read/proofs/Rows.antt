-- Laws for the loop over the list of entries: before the element at k there are n, of which the spots are kept.
use Rattle.std.specs.Prelude.{None}
use Prim.Native.Nat.{ℕ, zero, suc, ◌+◌, ◌-◌, ◌≤◌, ◌<◌}
use mathlib.Core.Path.{◌≡◌, refl, sym, ◌∙◌, ap}
use mathlib.Core.Bool.{Bool, true, false, ◌||◌}
use mathlib.Core.List.{List, [], ◌∷◌}
use native.Mathlib.Omega.{arith}
use native.Mathlib.Numerals.{add-one}
use lib.Dec.{eqb, ltb}
use lib.ListN.{length, get_or, drop, set, length-set, length-drop}
use lib.Seq.{get_or-set_same, get_or-set_other}
use borrow.Author.Tests.{ne_eqb, eqb-true, eqb-false, lt-ltb, le-ltb}
use Rattle.laws.specs.Pick.{pick, either, both}
use Rattle.json_tokens.specs.declared.Step.{Step}
use Rattle.json_tokens.specs.declared.Step.TheVariants.{More, End, Wrong}
use Rattle.json_tokens.specs.Scan.{past_while, blank, after, then_step}
use Rattle.json_tokens.specs.Walk.{walked}
use Rattle.json_tokens.proofs.Picks.{inside}
use Rattle.json_tokens.proofs.Turns.{walked_more, walked_end, walked-wrong, turn-falls, turn-ahead}
use Rattle.json_values.specs.Value.{value_at, item_step, array_of}
use Rattle.json_values.proofs.Ahead.{forth-items}
use Rattle.report_read.specs.declared.Spot.{Spot}
use Rattle.report_read.specs.declared.Kept.{Kept}
use Rattle.report_read.specs.Entry.{in_list, request_name, response_name, member_of, held, has_all, entry_at, elements_of, all_of}
use Rattle.report_read.specs.Entry.{entries_at}
use Rattle.report_read.specs.Read.{is_big, any_big}
use Rattle.report_read.specs.Ready.{from, Spotted, Fine, spot_in, Listed}
use Rattle.report_read.proofs.Elements.{both_left, elements-from, elements-none, array-some, array-empty}
use Rattle.report_read.proofs.Elements.{from_more, from_end, from-head}

-- the element at n, and those behind it
drop_here : (n : ℕ) (E : List ℕ) {x : ℕ} {l : List ℕ} → drop n E ≡ x ∷ l
    → (n < length E) × ((get_or E n 0 ≡ x) × (drop (suc n) E ≡ l))
drop_here zero [] e = let z : ◌≡◌ {A = ℕ} 0 1 = cc in absurd (omega arith)
drop_here zero (y ∷ E) e = (omega arith, (cc, cc))
drop_here (suc n) [] e = let z : ◌≡◌ {A = ℕ} 0 1 = cc in absurd (omega arith)
drop_here (suc n) (y ∷ E) e = let r = drop_here n E e in (omega (arith, r.0), (r.1.0, r.1.1))

or-either : (p q r : Bool) → either (p || q) r ≡ either p (either q r)
unfolding either
or-either true q r = refl
or-either false true r = refl
or-either false false r = refl

or_is : (p q : Bool) → (p || q) ≡ either p q
unfolding either
or_is true q = refl
or_is false q = refl

or-last : (p q : Bool) → either p (either q false) ≡ (p || q)
unfolding either
or-last true q = refl
or-last false true = refl
or-last false false = refl

-- ---- What is kept: one more, of the first 16.
pub stored_of : List Spot → ℕ → Spot → List Spot
stored_of es n e = pick (ltb n 16) (set es n e) es

module _ (es : List Spot) (n : ℕ) (e : Spot) {fs : List Spot} where
  pub stored-early : n < 16 → fs ≡ set es n e → fs ≡ stored_of es n e
  unfolding stored_of pick
  stored-early h q = rw (lt-ltb n 16 h) q

  pub stored-late : 16 ≤ n → fs ≡ es → fs ≡ stored_of es n e
  unfolding stored_of pick
  stored-late h q = rw (le-ltb n 16 h) q

stored-long : (es : List Spot) (n : ℕ) (e : Spot) → length (stored_of es n e) ≡ length es
unfolding stored_of pick
stored-long es n e = by (ltb n 16)
  where
    by : (b : Bool) → length (pick b (set es n e) es) ≡ length es
    by true = simp length-set
    by false = refl

stored_here : (es : List Spot) (n : ℕ) (e : Spot) → n < 16 → length es ≡ 16 → spot_in (stored_of es n e) n ≡ e
unfolding stored_of pick
stored_here es n e h l = rw (lt-ltb n 16 h) (get_or-set_same es n e (spot_in [] 0) (omega arith))

stored_other : (es : List Spot) (n i : ℕ) (e : Spot) → (i ≡ n → ⊥) → spot_in (stored_of es n e) i ≡ spot_in es i
unfolding stored_of pick
stored_other es n i e h = by (ltb n 16)
  where
    by : (b : Bool) → spot_in (pick b (set es n e) es) i ≡ spot_in es i
    by true = get_or-set_other es n i e (spot_in [] 0) h
    by false = refl

pub record Listing (s : List ℕ) (v k n : ℕ) (big : Bool) (es : List Spot) : Type 0 where
  pub low : n ≤ k
  pub long : length es ≡ 16
  pub here : drop n (elements_of s in_list v) ≡ from s k
  pub all : all_of s (eqb n 0) (from s k) ≡ all_of s true (elements_of s in_list v)
  pub weighed : either big (any_big (entries_at s (eqb n 0) (from s k))) ≡ any_big (entries_at s true (elements_of s in_list v))
  pub ends : walked (length s) (item_step s (value_at s in_list)) k ≡ array_of s (value_at s in_list) v
  pub spots : (i : ℕ) → i < n → i < 16
      → ((spot_in es i).at ≡ get_or (elements_of s in_list v) i 0) × Spotted s (eqb i 0) (spot_in es i)

module _ (s : List ℕ) (v : ℕ) {start b : ℕ} (e : start ≡ past_while blank s (v + 1)) (g : b ≡ get_or s start 0) where
  pub listing-first : {es : List Spot} → length es ≡ 16 → (b ≡ 93 → ⊥) → Listing s v start 0 false es
  unfolding either
  listing-first l h = let f = elements-from s v e g h in record {
    low = omega arith;
    long = l;
    here = f;
    all = ap (all_of s true) (sym f);
    weighed = ap (λ ks. any_big (entries_at s true ks)) (sym f);
    ends = array-some s v e g h;
    spots = λ i j. absurd (omega arith);
  }

  pub listed-none : (r : Kept) → b ≡ 93 → r.n ≡ 0 → r.big ≡ false → Listed s v r (start + 1)
  unfolding all_of any_big entries_at
  listed-none r h n w = record {
    all = rw (elements-none s v e g h) refl;
    ends = array-empty s v e g h;
    keeps = record {
      count = rw (elements-none s v e g h) n;
      weighed = rw (elements-none s v e g h) w;
      spots = λ i j. absurd (omega arith);
    };
  }

module _ {s : List ℕ} {v k n : ℕ} {big : Bool} {es : List Spot} (l : Listing s v k n big es) where
  -- the element at k is none, or the list goes wrong behind it
  pub listing-unfit : (has_all s (eqb n 0) k ≡ true → value_at s in_list k ≡ None)
      → all_of s true (elements_of s in_list v) ≡ true → array_of s (value_at s in_list) v ≡ None
  unfolding all_of item_step then_step
  listing-unfit f a =
      let h : has_all s (eqb n 0) k ≡ true = both_left _ _ (rw (from-head s k) at (l.all ∙ a)) in
      let w : Wrong ≡ item_step s (value_at s in_list) k = rw (f h) refl in
      sym l.ends ∙ sym (walked-wrong (length s) (item_step s (value_at s in_list)) k w refl)

  module _ {e : Spot} {j : ℕ} (f : Fine s (eqb n 0) k e j) where
    pub listing-inside : k < length s
    unfolding has_all
    listing-inside = inside s refl (eqb-true _ _ (both_left _ _ f.all)) tt

    module _ {x : Step} (y : x ≡ after s 93 j) where
      turn : x ≡ item_step s (value_at s in_list) k
      unfolding item_step then_step
      turn = rw f.end y

      pub listing-wrong : x ≡ Wrong → all_of s true (elements_of s in_list v) ≡ true → array_of s (value_at s in_list) v ≡ None
      listing-wrong h a = sym l.ends ∙ sym (walked-wrong (length s) (item_step s (value_at s in_list)) k turn h)

      pub listing-less : {i : ℕ} → x ≡ More i → length s - i < length s - k
      listing-less h = turn-falls (length s) (item_step s (value_at s in_list)) (forth-items s in_list) k turn h

      module _ {o : Bool} (w : o ≡ (ltb 2000 e.asked || ltb 2000 e.said)) {fs : List Spot} (t : fs ≡ stored_of es n e) where
        big-is : o ≡ is_big (entry_at s (eqb n 0) k)
        unfolding is_big entry_at either
        big-is = w ∙ rw (f.spot.asked, f.spot.said, f.here) (or_is
            (ltb 2000 (length (held (member_of s k request_name)))) (ltb 2000 (length (held (member_of s k response_name)))))

        kept-long : length fs ≡ 16
        kept-long = rw t (stored-long es n e ∙ l.long)

        kept-spots : (i : ℕ) → i < n + 1 → i < 16
            → ((spot_in fs i).at ≡ get_or (elements_of s in_list v) i 0) × Spotted s (eqb i 0) (spot_in fs i)
        kept-spots i h g = rw t (by (eqb i n) refl)
          where
            at_n : get_or (elements_of s in_list v) n 0 ≡ k
            at_n = (drop_here n (elements_of s in_list v) (l.here ∙ from-head s k)).1.0

            by : (b : Bool) → eqb i n ≡ b
                → ((spot_in (stored_of es n e) i).at ≡ get_or (elements_of s in_list v) i 0)
                × Spotted s (eqb i 0) (spot_in (stored_of es n e) i)
            by true q =
                let z : i ≡ n = eqb-true i n q in
                rw (z, stored_here es n e (omega arith) l.long) (f.here ∙ sym at_n, f.spot)
            by false q = rw (stored_other es n i e (eqb-false i n q)) (l.spots i (omega (arith, eqb-false i n q)) g)

        pub listing-more : {i : ℕ} → x ≡ More i → Listing s v i (n + 1) (big || o) fs
        unfolding all_of both any_big entries_at either
        listing-more {i} h =
            let m = from_more s k turn h in
            let d = drop_here n (elements_of s in_list v) (l.here ∙ m) in
            let z : eqb (n + 1) 0 ≡ false = ne_eqb (n + 1) 0 (λ q. omega arith) in
            record {
              low = omega (arith, l.low, turn-ahead (length s) (item_step s (value_at s in_list)) (forth-items s in_list) k turn h);
              long = kept-long;
              here = rw (add-one n) d.1.1;
              all = rw z (rw (m, f.all) at l.all);
              weighed = rw (z, or-either big o _, big-is) (rw m at l.weighed);
              ends = walked_more (length s) (item_step s (value_at s in_list)) (forth-items s in_list) k turn h ∙ l.ends;
              spots = kept-spots;
            }

        pub listing-end : (r : Kept) {i : ℕ} → x ≡ End i → r.n ≡ n + 1 → r.big ≡ (big || o) → r.spots ≡ fs → Listed s v r i
        unfolding all_of both any_big entries_at either
        listing-end r {i} h q u a =
            let m = from_end s k turn h in
            let d = drop_here n (elements_of s in_list v) (l.here ∙ m) in
            record {
              all = sym l.all ∙ rw (m, f.all) refl;
              ends = sym l.ends ∙ sym (walked_end (length s) (item_step s (value_at s in_list)) k turn h);
              keeps = record {
                count = q ∙ omega (arith, d.0, length-drop (suc n) (elements_of s in_list v), ap length d.1.1);
                weighed = u ∙ sym (or-last big o) ∙ rw big-is (rw m at l.weighed);
                spots = λ i c g. rw a (kept-spots i (omega (arith, q)) g);
              };
            }
