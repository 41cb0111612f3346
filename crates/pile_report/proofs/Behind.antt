-- The key and the rand, bytes 0 to 63 of a record, play no part in whether it is valid, nor in what its packets are:
-- records that are alike from byte 64 on have the same packets and are valid together.
use mathlib.Core.Path.{◌≡◌, refl, sym, ap, ◌∙◌}
use mathlib.Core.List.{List}
use Prim.Native.Nat.{ℕ, zero, suc, ◌+◌, ◌*◌, ◌<◌}
use native.Mathlib.Nat.{add_assoc}
use lib.ListN.{drop}
use lib.Seq.{drop-drop, get_or-drop}
use Rattle.laws.specs.Numbers.{le}
use Rattle.pile.specs.Pile.{records_in, record_at, request_length, response_length, request_packet, response_packet, said_yes}
use Rattle.pile.specs.Valid.{record_bad}
use Rattle.pile.specs.Meaning.{GoodPile, Undamaged, ValidRecord}
use Rattle.pile.proofs.Exactly.{undamaged-exactly}

-- a number behind the first n bytes
le-drop : (k n : ℕ) (s : List ℕ) (at : ℕ) → le k (drop n s) at ≡ le k s (n + at)
unfolding le
le-drop zero n s at = refl
le-drop (suc k) n s at = rw (le-drop k n s at, get_or-drop n s (at + k) 0, add_assoc n at k)

-- two records are alike behind key and rand
pub record Alike (r s : List ℕ) : Type 0 where
  pub behind : drop 64 r ≡ drop 64 s

pub alike-back : {r s : List ℕ} → Alike r s → Alike s r
alike-back a = record { behind = sym a.behind }

module _ {r s : List ℕ} (alike : Alike r s) where
  rest : (n : ℕ) → drop (64 + n) r ≡ drop (64 + n) s
  rest n = sym (drop-drop n 64 r) ∙ ap (drop n) alike.behind ∙ drop-drop n 64 s

  number : (at : ℕ) → le 4 r (64 + at) ≡ le 4 s (64 + at)
  number at = sym (le-drop 4 64 r at) ∙ ap (λ (l : List ℕ). le 4 l at) alike.behind ∙ le-drop 4 64 s at

  same-request-length : request_length r ≡ request_length s
  same-request-length = number 0

  same-response-length : response_length r ≡ response_length s
  same-response-length = number 4

  same-request : request_packet r ≡ request_packet s
  unfolding request_packet
  same-request = cc (same-request-length, rest 32)

  pub same-response : response_packet r ≡ response_packet s
  unfolding response_packet
  same-response = cc (same-response-length, rest 2032)

  same-damage : record_bad r ≡ record_bad s
  unfolding record_bad
  same-damage = cc (same-request-length, same-response-length, rest 32, rest 2032, rest 8)

  undamaged-alike : Undamaged r → Undamaged s
  undamaged-alike u = (undamaged-exactly s).0 (sym same-damage ∙ (undamaged-exactly r).1 u)

-- Record k of the pile p, with the answers a, and record m of the pile q, with the answers b: where they are alike and
-- have the same answers, the second is valid if the first is.
pub valid-alike : {p q a b : List ℕ} {k m : ℕ} → Alike (record_at p k) (record_at q m)
    → said_yes a (2 * k) ≡ said_yes b (2 * m) → said_yes a (2 * k + 1) ≡ said_yes b (2 * m + 1) → GoodPile q b
    → m < records_in q → ValidRecord p a k → ValidRecord q b m
valid-alike alike d s good there v = record {
  pile-good = good;
  there = there;
  undamaged = undamaged-alike alike v.undamaged;
  passes = rw (same-request alike, same-response alike, d, s) at v.passes;
}
