-- Laws for the loop that counts the servers of a list.
use Rattle.std.specs.Prelude.{None, Option, Some}
use Prim.Native.Nat.{ℕ, suc, ◌+◌, ◌≤◌, ◌<◌}
use mathlib.Core.Path.{◌≡◌, refl, sym, ◌∙◌, ap}
use mathlib.Core.Bool.{Bool, true, false, true≢false}
use mathlib.Core.List.{List, [], ◌∷◌, ◌++◌, append_assoc, append-nil}
use native.Mathlib.Numerals.{add-one}
use native.Mathlib.Omega.{arith}
use lib.Dec.{ltb}
use lib.ListN.{length, set, length-append, length-set, length-replicate}
use lib.Seq.{take-suc-set}
use borrow.Author.Tests.{lt-ltb}
use Rattle.laws.specs.Pick.{pick, either, both}
use Rattle.report_read.specs.Entry.{elements_of}
use Rattle.list_read.specs.declared.Seen.{Seen}
use Rattle.list_read.specs.declared.Tally.{Tally}
use Rattle.list_read.specs.Server.{in_servers, askable, server_good, server_at}
use Rattle.list_read.specs.Listed.{all_servers, servers_at}
use Rattle.list_read.specs.Read.{is_crowded, any_crowded}
use Rattle.list_read.specs.Facts.{left, Opens, Turns, past_item, seen_of, ask_places, kept_of, blank_tally, Counts, Tallied, Tells}
use Rattle.list_read.proofs.Items.{turns-past, turn-less, fuel, Below, below-first, below-here, below_on, left-done, left_here, left-on, rest, wrong_pick, right-pick}

-- ---- What is seen of one.
-- the next element, by where the server object ends
pub next-turns : {x : Option Seen} {v : Seen} {y : Option ℕ} (s : List ℕ) (k : ℕ) → x ≡ seen_of s k → x ≡ Some v
    → y ≡ past_item s v.end → Turns s in_servers k y
unfolding seen_of
next-turns s k e h g = turns-past s in_servers k g (ap (λ (w : Seen). w.end) (right-pick _ _ (sym h ∙ e)).1)

pub next-less : {x : Option Seen} {v : Seen} {at y : Option ℕ} (s : List ℕ) {k : ℕ} → at ≡ Some k → x ≡ seen_of s k
    → x ≡ Some v → y ≡ past_item s v.end → fuel s y < fuel s at
next-less s {k} a e h g = turn-less a (next-turns s k e h g)

-- ---- One more at the end.
module _ (s : List ℕ) (k : ℕ) where
  all_snoc : (ks : List ℕ) → all_servers s ks ≡ true → server_good s k ≡ true → all_servers s (ks ++ (k ∷ [])) ≡ true
  unfolding all_servers both
  all_snoc [] a g = rw g refl
  all_snoc (j ∷ ks) a g = by (server_good s j) a (λ h. all_snoc ks h g)
    where
      by : (b : Bool) → both b (all_servers s ks) ≡ true → (all_servers s ks ≡ true → all_servers s (ks ++ (k ∷ [])) ≡ true)
          → both b (all_servers s (ks ++ (k ∷ []))) ≡ true
      by true h f = f h
      by false h f = h

  all-stop : (ks ls : List ℕ) → server_good s k ≡ false → all_servers s (ks ++ (k ∷ ls)) ≡ false
  unfolding all_servers both
  all-stop [] ls g = rw g refl
  all-stop (j ∷ ks) ls g = by (server_good s j) (all-stop ks ls g)
    where
      by : (b : Bool) → all_servers s (ks ++ (k ∷ ls)) ≡ false → both b (all_servers s (ks ++ (k ∷ ls))) ≡ false
      by true h = h
      by false h = refl

  ask-snoc : (ks : List ℕ) → askable (server_at s k) ≡ true → ask_places s (ks ++ (k ∷ [])) ≡ ask_places s ks ++ (k ∷ [])
  unfolding ask_places pick
  ask-snoc [] g = rw g refl
  ask-snoc (j ∷ ks) g = by (askable (server_at s j)) (ask-snoc ks g)
    where
      by : (b : Bool) → ask_places s (ks ++ (k ∷ [])) ≡ ask_places s ks ++ (k ∷ [])
          → pick b (j ∷ ask_places s (ks ++ (k ∷ []))) (ask_places s (ks ++ (k ∷ [])))
          ≡ pick b (j ∷ ask_places s ks) (ask_places s ks) ++ (k ∷ [])
      by true h = ap (λ (l : List ℕ). j ∷ l) h
      by false h = h

  pass-snoc : (ks : List ℕ) → askable (server_at s k) ≡ false → ask_places s (ks ++ (k ∷ [])) ≡ ask_places s ks
  unfolding ask_places pick
  pass-snoc [] g = rw g refl
  pass-snoc (j ∷ ks) g = ap (λ (l : List ℕ). pick (askable (server_at s j)) (j ∷ l) l) (pass-snoc ks g)

  crowd-snoc : (ks : List ℕ)
      → any_crowded (servers_at s (ks ++ (k ∷ []))) ≡ either (any_crowded (servers_at s ks)) (is_crowded (server_at s k))
  unfolding any_crowded servers_at either
  crowd-snoc [] = by (is_crowded (server_at s k))
    where
      by : (b : Bool) → either b false ≡ b
      by true = refl
      by false = refl
  crowd-snoc (j ∷ ks) = by (is_crowded (server_at s j)) (crowd-snoc ks)
    where
      by : (b : Bool)
          → any_crowded (servers_at s (ks ++ (k ∷ []))) ≡ either (any_crowded (servers_at s ks)) (is_crowded (server_at s k))
          → either b (any_crowded (servers_at s (ks ++ (k ∷ []))))
          ≡ either (either b (any_crowded (servers_at s ks))) (is_crowded (server_at s k))
      by true h = refl
      by false h = h

-- no more can be asked than there are
pub asks-few : (s ks : List ℕ) → length (ask_places s ks) ≤ length ks
unfolding ask_places pick
asks-few s [] = omega arith
asks-few s (k ∷ ks) = by (askable (server_at s k)) (asks-few s ks)
  where
    by : (b : Bool) → length (ask_places s ks) ≤ length ks
        → length (pick b (k ∷ ask_places s ks) (ask_places s ks)) ≤ suc (length ks)
    by true h = omega arith
    by false h = omega arith

-- ---- A server more is counted.
kept-length : (l : List ℕ) (m k : ℕ) (a : Bool) → length (kept_of l m k a) ≡ length l
unfolding kept_of pick
kept-length l m k false = refl
kept-length l m k true = by (ltb m 64)
  where
    by : (b : Bool) → length (pick b (set l m k) l) ≡ length l
    by true = length-set l m k
    by false = refl

module _ {s ks : List ℕ} (k : ℕ) {n m : ℕ} {big : Bool} {l : List ℕ} (t : Tallied s ks n m big l) (z : length l ≡ 64) where
  tallied-on : {n₁ m₁ : ℕ} {big₁ : Bool} {l₁ : List ℕ} (a b : Bool) → askable (server_at s k) ≡ a
      → is_crowded (server_at s k) ≡ b → n₁ ≡ n + 1 → m₁ ≡ pick a (m + 1) m → big₁ ≡ either big b → l₁ ≡ kept_of l m k a
      → Tallied s (ks ++ (k ∷ [])) n₁ m₁ big₁ l₁
  unfolding pick kept_of
  tallied-on {n₁} {m₁} {big₁} {l₁} true b ea eb en em ec el = record {
    count = omega (arith, t.count, length-append ks (k ∷ []));
    asked =
        omega (arith, t.asked, ap length (ask-snoc s k ks ea), length-append (ask_places s ks) (k ∷ []));
    crowded = ec ∙ rw (t.crowded, sym eb) (sym (crowd-snoc s k ks));
    kept = λ h.
        let i : m < 64 = omega (arith, asks-few s ks, t.asked, t.count) in
        let j : l₁ ≡ set l m k = el ∙ rw (lt-ltb m 64 i) refl in
        let o : m₁ ≡ suc m = em ∙ add-one m in
        rw (j, o) (take-suc-set l m k (omega arith) ∙ rw (t.kept (omega arith)) (sym (ask-snoc s k ks ea)));
  }
  tallied-on {n₁} {m₁} {big₁} {l₁} false b ea eb en em ec el = record {
    count = omega (arith, t.count, length-append ks (k ∷ []));
    asked = em ∙ t.asked ∙ sym (ap length (pass-snoc s k ks ea));
    crowded = ec ∙ rw (t.crowded, sym eb) (sym (crowd-snoc s k ks));
    kept = λ h. rw (el, em) (t.kept (omega arith) ∙ sym (pass-snoc s k ks ea));
  }

-- ---- How far counting has come.
pub record Going (s ks : List ℕ) (at : Option ℕ) (t : Tally) : Type 0 where
  pub low : Below t.count at
  pub done : List ℕ
  pub whole : done ++ left s in_servers at ≡ ks
  pub all : all_servers s done ≡ true
  pub told : Tallied s done t.count t.asked t.crowded t.places
  pub size : length t.places ≡ 64

pub going-first : {s : List ℕ} {v : ℕ} {x : Option ℕ} {t : Tally} → Opens s in_servers v x → t ≡ blank_tally
    → Going s (elements_of s in_servers v) x t
unfolding blank_tally all_servers any_crowded servers_at ask_places
going-first {s} {v} {x} {t} o e = rw e record {
  low = below-first o;
  done = [];
  whole = o.all;
  all = refl;
  told = record { count = refl; asked = refl; crowded = refl; kept = λ h. refl };
  size = length-replicate {A = ℕ} 64 0;
}

module _ {s ks : List ℕ} {at : Option ℕ} {t : Tally} (g : Going s ks at t) where
  pub going_done : at ≡ None → Tells s ks (Some t)
  going_done e =
      let w : g.done ≡ ks = sym (append-nil g.done) ∙ (rw (left-done s in_servers e) at g.whole) in
      (rw w at g.all, rw w at g.told)

  module _ {k : ℕ} (a : at ≡ Some k) where
    pub going-low : t.count < k
    going-low = below-here g.low a

    pub going-few : t.asked ≤ t.count
    going-few = omega (arith, asks-few s g.done, g.told.asked, g.told.count)

    pub going-stop : {x : Option Seen} → x ≡ seen_of s k → x ≡ None → all_servers s ks ≡ false
    unfolding seen_of
    going-stop {x} e h =
        ap (all_servers s) (sym g.whole ∙ rw (left_here s in_servers a) refl)
        ∙ all-stop s k g.done (rest s in_servers k) (wrong_pick _ _ (sym h ∙ e))

    pub going_on : {x : Option Seen} {v : Seen} {u : Tally} {y : Option ℕ} → x ≡ seen_of s k → x ≡ Some v
        → Counts t k v u → y ≡ past_item s v.end → Going s ks y u
    unfolding seen_of
    going_on {x} {v} {u} {y} e h w l =
        let q = right-pick _ _ (sym h ∙ e) in
        let f = next-turns s k e h l in
        record {
          low = rw w.count (below_on t.count g.low a f);
          done = g.done ++ (k ∷ []);
          whole =
              append_assoc g.done (k ∷ []) (left s in_servers y)
              ∙ sym (ap (λ (l : List ℕ). g.done ++ l) (left-on s in_servers a f)) ∙ g.whole;
          all = all_snoc s k g.done g.all q.0;
          told =
              tallied-on k g.told g.size v.asks v.crowded (sym (ap (λ (w : Seen). w.asks) q.1)) (sym (ap (λ (w : Seen). w.crowded) q.1)) w.count w.asked w.crowd
              w.places;
          size = ap length w.places ∙ kept-length t.places t.asked k v.asks ∙ g.size;
        }

pub ruleset going = (going-first, going_done, going-stop, going_on)
