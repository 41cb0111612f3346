-- What the writer of lists writes, where it refuses nothing, the reader reads: of the servers that were lent it answers
-- those of version 1.
use Prim.Native.Nat.{ℕ, zero, suc, ◌+◌, ◌-◌, ◌*◌, ◌/◌, ◌%◌, ◌≤◌, ◌<◌}
use mathlib.Core.Path.{◌≡◌, refl, sym, ◌∙◌, ap}
use mathlib.Core.Bool.{Bool, true, false}
use mathlib.Core.List.{List, [], ◌∷◌, map}
use native.Mathlib.Omega.{arith}
use lib.Dec.{eqb, ltb}
use lib.ListN.{length, get_or, drop, length-append}
use borrow.Author.Tests.{eqb-true, eqb-false, ltb-true, ltb-false, lt-ltb, le-ltb, eq-eqb}
use Rattle.laws.specs.Ascii.{ascii}
use Rattle.laws.specs.Bytes.{Bytes}
use Rattle.laws.specs.Pick.{pick, either, both}
use Rattle.laws.proofs.Bytes.{bytes_take, bytes_drop}
use Rattle.laws.proofs.Pasted.{length_part}
use Rattle.json_strings.specs.Text.{same_list}
use Rattle.json_laws.proofs.Spans.{both-parts}
use Rattle.json_laws.proofs.Paired.{is_same}
use Rattle.list_read.specs.Server.{Server, askable}
use Rattle.list_read.specs.Listed.{this, list_of}
use Rattle.list_read.specs.Read.{askables, records_of, record_bytes, servers_of}
use Rattle.list_read.specs.Read as read
use Rattle.list_write.specs.Decimal.{decimal_in, decimal}
use Rattle.list_write.specs.Lines.{lines_of}
use Rattle.list_write.specs.Given.{Given, is_crowded}
use Rattle.list_write.specs.Lent.{Lent, fitted, given_at, given_from, givens, any_crowded}
use Rattle.list_write.specs.Answers.{good_list, size_code, list_code}
use Rattle.list_write.specs.Texts.{list_text}
use Rattle.list_laws.specs.Written.{address_given, server_given, list_given, of_one, Lendable, AllLendable, no-server}
use Rattle.list_laws.specs.Written.{a-server}
use Rattle.list_laws.proofs.RoundTrip.{round_trip}

-- ---- Which servers can be asked.
one-is-one : same_list (decimal 1) (ascii "1") ≡ true
unfolding same_list both decimal decimal_in pick
one-is-one = refl

module _ (n : ℕ) where
  one-digit : n < 10 → decimal n ≡ (48 + n) ∷ []
  unfolding decimal decimal_in pick
  one-digit h =
      let m : n % 10 ≡ n = omega arith in rw (lt-ltb n 10 h) (ap (λ i. (48 + i) ∷ []) m)

  two_digits : 10 ≤ n → 2 ≤ length (decimal n)
  unfolding decimal decimal_in pick
  two_digits h =
      rw (le-ltb n 10 h) (omega (
        arith,
        length-append (decimal_in 9 (n / 10)) ((48 + n % 10) ∷ []),
        length-append (pick (ltb (n / 10) 10) [] (decimal_in 8 (n / 10 / 10))) ((48 + n / 10 % 10) ∷ []),
      ))

  decimal-one : same_list (decimal n) (ascii "1") ≡ eqb n 1
  unfolding same_list both
  decimal-one = by (ltb n 10) refl (same_list (decimal n) (ascii "1")) refl (eqb n 1) refl
    where
      by : (t : Bool) → ltb n 10 ≡ t → (b : Bool) → same_list (decimal n) (ascii "1") ≡ b
          → (c : Bool) → eqb n 1 ≡ c → b ≡ c
      by t e true f true g = refl
      by t e false f false g = refl
      by true e true f false g =
          let z = is_same (decimal n) (ascii "1") f in
          let d = one-digit (ltb-true n 10 e) in
          let y : 48 + n ≡ 49 = ap (λ l. get_or l 0 0) (sym d ∙ z) in
          absurd (eqb-false n 1 g (omega arith))
      by false e true f false g =
          let z = ap length (is_same (decimal n) (ascii "1") f) in
          absurd (omega (arith, two_digits (ltb-false n 10 e), z))
      by t e false f true g =
          let y : same_list (decimal n) (ascii "1") ≡ true = rw (eqb-true n 1 g) one-is-one in
          let z : ◌≡◌ {A = ℕ} 0 1 = cc in absurd (omega arith)

askable-given : (g : Given) → Lendable g → askable (server_given g) ≡ eqb g.version 1
unfolding askable server_given both same_list
askable-given g low = rw (decimal-one g.version, eq-eqb _ 32 low.long) (by (eqb g.version 1))
  where
    by : (t : Bool) → both t true ≡ t
    by true = refl
    by false = refl

askables-given : (gs : List Given) → AllLendable gs → askables (map server_given gs) ≡ map server_given (of_one gs)
unfolding askables of_one pick
askables-given [] no-server = refl
askables-given (g ∷ gs) (a-server low r) =
    rw (askable-given g low) (by (eqb g.version 1) (askables-given gs r))
  where
    by : (t : Bool) → askables (map server_given gs) ≡ map server_given (of_one gs)
        → pick t (server_given g ∷ askables (map server_given gs)) (askables (map server_given gs))
        ≡ map server_given (pick t (g ∷ of_one gs) (of_one gs))
    by true e = ap (λ (l : List Server). server_given g ∷ l) e
    by false e = e

-- ---- How many there are.
length-map : {A B : Type 0} (f : A → B) (l : List A) → length (map f l) ≡ length l
length-map f [] = refl
length-map f (a ∷ l) = ap suc (length-map f l)

crowded-given : (gs : List Given) → read.any_crowded (map server_given gs) ≡ any_crowded gs
unfolding read.any_crowded any_crowded read.is_crowded is_crowded server_given either
crowded-given [] = refl
crowded-given (g ∷ gs) = rw (length-map address_given (lines_of g.addresses), crowded-given gs) refl

size-given : (gs : List Given) → read.size_code (map server_given gs) ≡ size_code gs
unfolding read.size_code size_code
size-given gs = rw (length-map server_given gs, crowded-given gs) refl

-- ---- What is lent of many servers.
module _ (l : Lent) (numbers : (i : ℕ) → get_or l.versions i 0 < 4294967296) (keys : Bytes l.keys) where
  given-lendable : (i p q : ℕ) → 32 * i + 32 ≤ length l.keys → Lendable (given_at l i p q)
  unfolding given_at
  given-lendable i p q h = record {
    version = numbers i;
    key = bytes_take (drop (32 * i) l.keys) (bytes_drop l.keys keys (32 * i)) (32 * i + 32 - 32 * i);
    long = length_part l.keys (32 * i) (32 * i + 32) (omega arith) h ∙ omega arith;
  }

  from-lendable : (n i p q : ℕ) → 32 * (i + n) ≤ length l.keys → AllLendable (given_from n l i p q)
  unfolding given_from
  from-lendable zero i p q h = no-server
  from-lendable (suc n) i p q h =
      a-server (given-lendable i p q (omega arith)) (from-lendable n (i + 1) _ _ (omega arith))

  all-lendable : fitted l ≡ true → AllLendable (givens l)
  unfolding fitted givens
  all-lendable f =
      from-lendable (length l.versions) 0 0 0
      (omega (arith, eqb-true (length l.keys) (32 * length l.versions) (both-parts _ _ f).0))

-- ---- What the writer refuses nothing of.
code_by : (f g : Bool) (n : ℕ) → pick f (pick g n 24) 21 ≡ 0 → (f ≡ true) × (g ≡ true) × (n ≡ 0)
unfolding pick
code_by true true n e = (refl, refl, e)
code_by true false n e = absurd (omega (arith, e))
code_by false g n e = absurd (omega (arith, e))

module _ (l : Lent) (sources reports : List ℕ) (numbers : (i : ℕ) → get_or l.versions i 0 < 4294967296)
    (keys : Bytes l.keys) (fine : list_code l sources reports ≡ 0) where
  fine-parts : (fitted l ≡ true) × (good_list l sources reports ≡ true) × (size_code (givens l) ≡ 0)
  unfolding list_code
  fine-parts = code_by (fitted l) (good_list l sources reports) (size_code (givens l)) fine

  lendable : AllLendable (givens l)
  lendable = all-lendable l numbers keys fine-parts.0

  -- the text that is written is read as what was lent,
  pub written-again : list_of (list_text (givens l) sources reports) ≡ this (list_given (givens l) sources reports)
  unfolding good_list
  written-again =
      let p = both-parts _ _ fine-parts.1 in
      let q = both-parts _ _ p.1 in
      round_trip (givens l) sources reports lendable p.0 q.0 q.1

  -- with nothing to refuse but for room,
  pub written-accepted : read.list_code (list_of (list_text (givens l) sources reports)) ≡ 0
  unfolding read.list_code list_given
  written-accepted = rw written-again (size-given (givens l) ∙ fine-parts.2)

  -- and the servers that can be asked are those of version 1, in their order: their records are answered
  pub written-asked : askables (servers_of (list_of (list_text (givens l) sources reports)))
      ≡ map server_given (of_one (givens l))
  unfolding servers_of list_given
  written-asked = rw written-again (askables-given (givens l) lendable)

  pub written-records : record_bytes (list_of (list_text (givens l) sources reports))
      ≡ records_of (map server_given (of_one (givens l)))
  unfolding record_bytes
  written-records = ap records_of written-asked
