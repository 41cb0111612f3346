-- What the codes of a CERT and of a path say where they refuse nothing.
use Prim.Native.Nat.{ℕ, ◌≤◌}
use mathlib.Core.Path.{◌≡◌, refl, sym, ◌∙◌}
use mathlib.Core.Bool.{Bool, true, false, ◌&&◌, true≢false}
use mathlib.Core.List.{List}
use native.Mathlib.Omega.{arith}
use borrow.Author.Tests.{eqb-true, leb-true, not-false}
use lib.ListN.{length}
use Rattle.hash.specs.Hashes.{leaf_of}
use Rattle.laws.proofs.First.{quiet_of, row-quiet}
use Rattle.wire_message.specs.Sentences.{SiblingList}
use Rattle.wire_message.proofs.Codes.{message-good, kept}
use Rattle.refusal.specs.Refusal.{refusals}
use Rattle.refusal.specs.declared.Refusal.{Refusal}
use Rattle.tree.specs.PathCheck.{leads_of}
use Rattle.wire_packet.specs.Tables.{cert_table, dele_table}
use Rattle.server_response.specs.Facts.{Certifies}
use Rattle.server_response.specs.Refusing.{dele_of, cert_code, reply_misses}

and_parts : (a b : Bool) → (a && b) ≡ true → (a ≡ true) × (b ≡ true)
and_parts true b e = (refl, e)
and_parts false b e = absurd (true≢false (sym e))

-- the value of CERT, which has no code
pub certifies : (cert : List ℕ) {x : Refusal} → x ≡ cert_code cert → x.code ≡ 0 → Certifies cert
unfolding cert_code
certifies cert e z =
    let a = row-quiet refusals _ _ (quiet_of refusals e z) in
    let b = row-quiet refusals _ _ a.1 in
    record {
      frame = message-good cert cert_table _ refl a.0;
      dele-frame = message-good (dele_of cert) dele_table _ refl b.0;
      pubk-long = kept (dele_of cert) dele_table b.0 0 tt refl;
      mint-long = kept (dele_of cert) dele_table b.0 1 tt refl;
      maxt-long = kept (dele_of cert) dele_table b.0 2 tt refl;
    }

-- a path that leads is 0 to 32 whole siblings,
pub leads-siblings : (leaf : List ℕ) (indx : ℕ) (path root : List ℕ) → leads_of leaf indx path root ≡ true
    → SiblingList path
unfolding leads_of
leads-siblings leaf indx path root e =
    let led = and_parts _ _ e in
    let near = and_parts _ _ led.0 in
    let few = and_parts _ _ near.0 in
    record { whole = eqb-true _ _ few.0; few = leb-true _ _ few.1 }

-- at most 1,024 bytes
pub path-short : (request : List ℕ) (indx : ℕ) (path root : List ℕ) {t : Bool} → t ≡ reply_misses request indx path root
    → t ≡ false → length path ≤ 1024
unfolding reply_misses
path-short request indx path root e f =
    let s = leads-siblings (leaf_of request) indx path root (not-false _ (sym e ∙ f)) in
    omega (arith, s.whole, s.few)
