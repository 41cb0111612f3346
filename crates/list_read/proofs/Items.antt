-- Laws for the loops over the elements of a list, whose values nest at most d deep. Each goes from element to element:
-- `left s d x` are the places of those from x on.
use Rattle.std.specs.Prelude.{None, Option, Some}
use Prim.Native.Nat.{ℕ, suc, ◌+◌, ◌-◌, ◌<◌}
use mathlib.Core.Path.{◌≡◌, refl, sym, ◌∙◌, ap}
use mathlib.Core.Bool.{Bool, true, false, not}
use mathlib.Core.List.{List, [], ◌∷◌}
use native.Mathlib.Omega.{arith}
use lib.ListN.{length, get_or}
use borrow.Author.Tests.{ne_eqb, not-true, not-false}
use Rattle.laws.specs.Pick.{pick, both}
use Rattle.json_tokens.specs.declared.Step.{Step}
use Rattle.json_tokens.specs.declared.Step.TheVariants.{More, End, Wrong}
use Rattle.json_tokens.specs.Scan.{past_while, blank, then_step, after}
use Rattle.json_tokens.specs.Walk.{starts}
use Rattle.json_values.specs.Value.{value_at, item_step}
use Rattle.json_tokens.proofs.Turns.{Forth, starts_more, starts-end, starts-wrong}
use Rattle.json_values.proofs.Ahead.{forth-items}
use Rattle.json_tokens.proofs.While.{while-ahead}
use Rattle.report_read.specs.Entry.{elements_of}
use Rattle.list_read.specs.declared.SeenAddress.{SeenAddress}
use Rattle.list_read.specs.Server.{in_addresses, in_servers, address_good, all_addresses}
use Rattle.list_read.specs.Listed.{is_url, url_at, all_urls}
use Rattle.list_read.specs.Facts.{element_of, past_item, from, left, Behind, Opens, Turns, address_seen, counted_of}

-- ---- Turns.
module _ (s : List ℕ) (d v : ℕ) {start b : ℕ} (e : start ≡ past_while blank s (v + 1)) (h : b ≡ get_or s start 0) where
  elements-from : (b ≡ 93 → ⊥) → elements_of s d v ≡ from s d start
  unfolding elements_of pick from
  elements-from g = rw (sym e, sym h, ne_eqb b 93 g) refl

  pub opens-none : b ≡ 93 → Opens s d v None
  unfolding elements_of pick left
  opens-none g = record { all = sym (rw (sym e, sym h, g) refl); behind = tt }

  pub opens-some : v < length s → (b ≡ 93 → ⊥) → Opens s d v (Some start)
  unfolding left
  opens-some i g = record { all = sym (elements-from g); behind = (omega (arith, e, while-ahead blank s (v + 1)), i) }

module _ (s : List ℕ) (d k : ℕ) {x : Step} (e : x ≡ item_step s (value_at s d) k) where
  from_more : {j : ℕ} → x ≡ More j → from s d k ≡ k ∷ from s d j
  unfolding from
  from_more h = starts_more (length s) (item_step s (value_at s d)) (forth-items s d) k e h

  from_end : {j : ℕ} → x ≡ End j → from s d k ≡ k ∷ []
  unfolding from
  from_end h = starts-end (length s) (item_step s (value_at s d)) k e h

  from_wrong : x ≡ Wrong → from s d k ≡ k ∷ []
  unfolding from
  from_wrong h = starts-wrong (length s) (item_step s (value_at s d)) k e h

  pub turns_more : {j : ℕ} → x ≡ More j → Turns s d k (Some j)
  unfolding left
  turns_more {j} h =
      let f : Forth (length s) k (More j) = rw (sym e ∙ h) at (forth-items s d k) in
      record { others = from_more h; behind = f }

  pub turns-end : {j : ℕ} → x ≡ End j → Turns s d k None
  unfolding left
  turns-end h = record { others = from_end h; behind = tt }

  pub turns-wrong : x ≡ Wrong → Turns s d k None
  unfolding left
  turns-wrong h = record { others = from_wrong h; behind = tt }

pub ruleset turns = (opens-none, opens-some, turns_more, turns-end, turns-wrong)

-- the element behind one that ends at a place
module _ (s : List ℕ) {x : Option ℕ} where
  pub past-none : x ≡ None → None ≡ past_item s x
  unfolding past_item element_of then_step
  past-none h = rw h refl

  module _ {e : ℕ} {y : Step} (h : x ≡ Some e) (g : y ≡ after s 93 e) where
    pub past_more : {j : ℕ} → y ≡ More j → Some j ≡ past_item s x
    unfolding past_item element_of then_step
    past_more i = rw h (rw (sym g ∙ i) refl)

    pub past_end : {j : ℕ} → y ≡ End j → None ≡ past_item s x
    unfolding past_item element_of then_step
    past_end i = rw h (rw (sym g ∙ i) refl)

    pub past-wrong : y ≡ Wrong → None ≡ past_item s x
    unfolding past_item element_of then_step
    past-wrong i = rw h (rw (sym g ∙ i) refl)

pub ruleset past = (past-none, past_more, past_end, past-wrong)

turns-by : (s : List ℕ) (d k : ℕ) (y : Step) → y ≡ item_step s (value_at s d) k → Turns s d k (element_of y)
unfolding element_of
turns-by s d k (More j) e = turns_more s d k e refl
turns-by s d k (End j) e = turns-end s d k e refl
turns-by s d k Wrong e = turns-wrong s d k e refl

pub turns-past : {x : Option ℕ} {y : Option ℕ} (s : List ℕ) (d k : ℕ) → y ≡ past_item s x → x ≡ value_at s d k → Turns s d k y
unfolding past_item item_step
turns-past s d k e h = rw (e, h) (turns-by s d k _ refl)

-- how many elements there are at most from x on
unfoldable pub fuel : List ℕ → Option ℕ → ℕ
fuel s (Some k) = suc (length s - k)
fuel s None = 0

-- the first element from k on is the one at k
pub rest : List ℕ → ℕ → ℕ → List ℕ
rest s d k = tail_of (from s d k)
  where
    tail_of : List ℕ → List ℕ
    tail_of [] = []
    tail_of (x ∷ xs) = xs

from-head : (s : List ℕ) (d k : ℕ) → from s d k ≡ k ∷ rest s d k
unfolding from starts rest
from-head s d k = refl

module _ (s : List ℕ) (d : ℕ) {k : ℕ} {at : Option ℕ} (a : at ≡ Some k) where
  -- the element at k is the first that is left,
  pub left_here : left s d at ≡ k ∷ rest s d k
  unfolding left
  left_here = ap (left s d) a ∙ from-head s d k

  -- and the others are those from the next on
  pub left-on : {x : Option ℕ} → Turns s d k x → left s d at ≡ k ∷ left s d x
  unfolding left
  left-on t = ap (left s d) a ∙ t.others

pub turn-less : {s : List ℕ} {d k : ℕ} {at x : Option ℕ} → at ≡ Some k → Turns s d k x → fuel s x < fuel s at
unfolding fuel
turn-less {s} {d} {k} {at} {x} a t = rw a (by x t.behind)
  where
    by : (y : Option ℕ) → Behind s k y → fuel s y < suc (length s - k)
    by (Some j) b = omega arith
    by None b = omega arith

-- at the end nothing is left
pub left-done : (s : List ℕ) (d : ℕ) {at : Option ℕ} → at ≡ None → left s d at ≡ []
unfolding left
left-done s d a = rw a refl

-- ---- How many came before: fewer than bytes.
abbrev pub Below : ℕ → Option ℕ → Type 0
Below n (Some k) = n < k
Below n None = Unit {0}

pub below-first : {s : List ℕ} {d v : ℕ} {x : Option ℕ} → Opens s d v x → Below 0 x
below-first {s} {d} {v} {x} o = by x o.behind
  where
    by : (y : Option ℕ) → Behind s v y → Below 0 y
    by (Some k) b = omega arith
    by None b = tt

pub below-here : {n k : ℕ} {at : Option ℕ} → Below n at → at ≡ Some k → n < k
below-here l a = rw a at l

pub below_on : {s : List ℕ} {d : ℕ} (n : ℕ) {k : ℕ} {at x : Option ℕ} → Below n at → at ≡ Some k → Turns s d k x → Below (n + 1) x
below_on {s} {d} n {k} {at} {x} l a t = by x t.behind
  where
    by : (y : Option ℕ) → Behind s k y → Below (n + 1) y
    by (Some j) b = omega (arith, below-here l a)
    by None b = tt

-- ---- All URLs.
pub urls-first : {s : List ℕ} {v : ℕ} {x : Option ℕ} → Opens s in_servers v x
    → all_urls s (left s in_servers x) ≡ all_urls s (elements_of s in_servers v)
urls-first {s} o = ap (all_urls s) o.all

module _ (s : List ℕ) {r : Bool} {at : Option ℕ} (i : all_urls s (left s in_servers at) ≡ r) where
  pub urls-done : at ≡ None → true ≡ r
  unfolding all_urls
  urls-done e = rw (left-done s in_servers e) at i

  module _ {k : ℕ} {t : Bool} (a : at ≡ Some k) (e : t ≡ is_url (url_at s k)) where
    pub urls-stop : not t ≡ true → false ≡ r
    unfolding all_urls both
    urls-stop h = rw (left_here s in_servers a, sym e ∙ not-true t h) at i

    pub urls-turn : {x : Option ℕ} → not t ≡ false → Turns s in_servers k x → all_urls s (left s in_servers x) ≡ r
    unfolding all_urls both
    urls-turn h g = rw (left-on s in_servers a g, sym e ∙ not-false t h) at i

pub ruleset urls = (urls-first, urls-done, urls-stop, urls-turn, turn-less)

-- ---- How many addresses: n before this one; r is what is said of all.
unfoldable pub added : ℕ → Option ℕ → Option ℕ
added n (Some m) = Some (n + m)
added n None = None

pub record Addressed (s : List ℕ) (r : Option ℕ) (at : Option ℕ) (n : ℕ) : Type 0 where
  pub low : Below n at
  pub all : added n (counted_of s (left s in_addresses at)) ≡ r

added_none : (c : Option ℕ) → added 0 c ≡ c
unfolding added
added_none (Some m) = let z : 0 + m ≡ m = omega arith in ap Some z
added_none None = refl

pub addressed-first : {s : List ℕ} {v : ℕ} {x : Option ℕ} → Opens s in_addresses v x
    → Addressed s (counted_of s (elements_of s in_addresses v)) x 0
addressed-first {s} o = record { low = below-first o; all = added_none _ ∙ ap (counted_of s) o.all }

-- what is seen of an address object
pub wrong_pick : {A : Type 0} (b : Bool) (x : A) → None ≡ pick b (Some x) None → b ≡ false
unfolding pick
wrong_pick true x q = cc
wrong_pick false x q = refl

pub right-pick : {A : Type 0} (b : Bool) (x : A) {y : A} → Some y ≡ pick b (Some x) None → (b ≡ true) × (y ≡ x)
unfolding pick
right-pick true x q = (refl, cc)
right-pick false x q = cc

seen-wrong : (s : List ℕ) (k : ℕ) → None ≡ address_seen s k → address_good s k ≡ false
unfolding address_seen
seen-wrong s k e = wrong_pick _ _ e

seen-right : (s : List ℕ) (k : ℕ) {y : SeenAddress} → Some y ≡ address_seen s k
    → (address_good s k ≡ true) × (y.end ≡ value_at s in_addresses k)
unfolding address_seen
seen-right s k e = let p = right-pick _ _ e in (p.0, ap (λ (w : SeenAddress). w.end) p.1)

-- one more, and the rest
added-on : (s : List ℕ) (n k : ℕ) (ks : List ℕ) → address_good s k ≡ true
    → added n (counted_of s (k ∷ ks)) ≡ added (n + 1) (counted_of s ks)
unfolding counted_of all_addresses both added pick
added-on s n k ks e = rw e (by (all_addresses s ks))
  where
    by : (b : Bool) → added n (pick b (Some (suc (length ks))) None) ≡ added (n + 1) (pick b (Some (length ks)) None)
    by true = let z : n + suc (length ks) ≡ n + 1 + length ks = omega arith in ap Some z
    by false = refl

module _ {s : List ℕ} {r : Option ℕ} {at : Option ℕ} {n : ℕ} (c : Addressed s r at n) where
  pub addressed-done : at ≡ None → Some n ≡ r
  unfolding counted_of all_addresses pick added
  addressed-done e =
      let z : n ≡ n + 0 = omega arith in
      ap Some z ∙ (rw (left-done s in_addresses e) at c.all)

  module _ {k : ℕ} (a : at ≡ Some k) where
    pub addressed-less : n < k
    addressed-less = below-here c.low a

    module _ {y : Option SeenAddress} (e : y ≡ address_seen s k) where
      pub addressed-stop : y ≡ None → None ≡ r
      unfolding counted_of all_addresses both pick added
      addressed-stop h = rw (left_here s in_addresses a, seen-wrong s k (sym h ∙ e)) at c.all

      module _ {seen : SeenAddress} (h : y ≡ Some seen) {x : Option ℕ} (l : x ≡ past_item s seen.end) where
        turned : Turns s in_addresses k x
        turned = turns-past s in_addresses k l (seen-right s k (sym h ∙ e)).1

        pub addressed-fuel : fuel s x < fuel s at
        addressed-fuel = turn-less a turned

        pub addressed-turn : Addressed s r x (n + 1)
        addressed-turn = record {
          low = below_on n c.low a turned;
          all =
              sym (added-on s n k (left s in_addresses x) (seen-right s k (sym h ∙ e)).0)
              ∙ (rw (left-on s in_addresses a turned) at c.all);
        }

pub ruleset addressed = (addressed-first, addressed-done, addressed-stop, addressed-fuel, addressed-turn)
