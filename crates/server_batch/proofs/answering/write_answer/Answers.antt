-- `server_batch::answering::write_answer` meets its contract. The pieces are put one after the other.
use mathlib.Core.List.{List, [], ◌∷◌, ◌++◌}
use mathlib.Core.Path.{◌≡◌, refl, ap, ◌∙◌}
use Prim.Native.Nat.{ℕ, ◌+◌, ◌*◌, ◌-◌}
use native.Mathlib.Omega.{arith}
use Rattle.laws.proofs.Pasted.{pasted-two}
use Rattle.wire_message.specs.Encode.{words}
use Rattle.wire_message.specs.Tags.{NONC}
use Rattle.wire_message.specs.Values.{value_of}
use Rattle.wire_packet.proofs.RequestCodes.{lent-body}
use Rattle.server_parts.specs.Signed.{srep_bytes}
use Rattle.server_parts.proofs.Pieces.{length-srep}
use Rattle.server_response.specs.Steps.{behind_bytes}
use Rattle.server_batch.proofs.Answered.{answer-whole, answer-length}
use borrow.Author.Rules.{rules}
use Rattle.server_batch.proofs.answering.write_answer.Goals as goal

pub overflow_mul-n : goal.overflow_mul-n
overflow_mul-n c = search rules

pub body_of-requires : goal.body_of-requires
body_of-requires c = (lent-body _ refl c.requires.good).0

pub value32-nonce-requires : goal.value32-nonce-requires
value32-nonce-requires c =
    let asks = (lent-body _ refl c.requires.good).1 in
    rw c.body_of.ensures (asks.frame, asks.nonc-long)

pub overflow_cast-n : goal.overflow_cast-n
overflow_cast-n c = search rules

pub overflow_cast-n-2 : goal.overflow_cast-n-2
overflow_cast-n-2 c = search rules

pub overflow_cast-common : goal.overflow_cast-common
overflow_cast-common c = search rules

pub put_front-requires : goal.put_front-requires
put_front-requires c = search rules

pub overflow_add-behind : goal.overflow_add-behind
overflow_add-behind c = search rules

pub slice_bounds-read_path-count : goal.slice_bounds-read_path-count
slice_bounds-read_path-count c = search rules

pub slice_bounds-read_path-start : goal.slice_bounds-read_path-start
slice_bounds-read_path-start c = search rules

pub slice_bounds-read_path-end : goal.slice_bounds-read_path-end
slice_bounds-read_path-end c = search rules

pub read_path-requires : goal.read_path-requires
read_path-requires c = search rules

pub overflow_cast-indx : goal.overflow_cast-indx
overflow_cast-indx c = search rules

pub put_srep-requires : goal.put_srep-requires
put_srep-requires c = search rules

pub put_end-requires : goal.put_end-requires
put_end-requires c = search rules

pub shape_of-dst : goal.shape_of-dst
shape_of-dst c = search rules

pub returns : goal.returns
unfolding behind_bytes
returns c =
    let a = c.args in
    let told =
    c.value32-nonce.ensures ∙ ap (λ (m : List ℕ). value_of m NONC) c.body_of.ensures in
    let f = a.common in
    let n = 32 * f.depth in
    let wide : n ≡ 32 * f.depth = refl in
    let same : 168 + n - 168 ≡ n = omega arith in
    let read = c.read_path.ensures in
    let behind =
    pasted-two _ (srep_bytes f.said.root f.said.midp f.said.radi) (f.cert.now ++ words (a.indx ∷ [])) (168 + n)
    (168 + n + 92) c.put_srep.ensures c.put_end.ensures
    (omega (arith, length-srep f.said.root f.said.midp f.said.radi c.requires.whole.root)) (search rules) in (
      answer-whole a.p.now a.indx f.rows.now f.depth f.said f.cert.now c.requires.good
          c.requires.whole.root c.requires.whole.signature a.dst.now wide same c.requires.enough
          c.put_front.ensures told read refl behind,
      answer-length a.p.now a.indx f.rows.now f.depth f.said f.cert.now c.requires.good
          c.requires.whole.root c.requires.whole.signature a.dst.now wide same c.requires.enough
          c.put_front.ensures told read refl behind,
    )
