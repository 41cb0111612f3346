-- The three pieces of an answer, one after the other: they are the response to the packet.
use mathlib.Core.Bool.{Bool, true, false, cond}
use mathlib.Core.List.{List, ◌++◌, append_assoc}
use mathlib.Core.Path.{◌≡◌, refl, sym, ap, ap₂, subst, ◌∙◌}
use Prim.Native.Nat.{ℕ, ◌+◌, ◌*◌, ◌≤◌}
use native.Mathlib.Numerals.{add-one}
use native.Mathlib.Omega.{arith}
use lib.ListN.{length, take, drop, length-drop, take-append-drop}
use lib.Seq.{length-take-le, drop-append-le, drop-drop}
use Rattle.laws.specs.Flat.{flat}
use Rattle.laws.specs.Pasted.{pasted}
use Rattle.laws.specs.Written.{Puts}
use Rattle.laws.proofs.Pasted.{part-back, pasted-end, length-pasted}
use Rattle.laws.proofs.Written.{puts_one, puts-put, puts-as, puts-length}
use Rattle.tree_build.specs.AllRows.{path_in}
use Rattle.wire_message.specs.Tags.{NONC}
use Rattle.wire_message.specs.Values.{value_of}
use Rattle.wire_packet.specs.Packet.{body}
use Rattle.wire_packet.specs.Request.{request_bad}
use Rattle.wire_packet.proofs.RequestCodes.{lent-body}
use Rattle.server_response.specs.Response.{Reply, reply, nonce_of}
use Rattle.server_response.specs.Steps.{front_bytes, behind_bytes, rest_bytes}
use Rattle.server_response.proofs.Pieces.{Sized, length_front, length-behind, length-response, response-is}
use Rattle.server_batch.specs.Answering.{out_after}
use Rattle.server_batch.specs.Picking.{how_many}
use Rattle.server_batch.specs.Steps.{answer_in, AnsweredOne}
use Rattle.server_batch.specs.declared.Said.{Said}

-- what fills a part of a buffer whole is put there
part_filled : (o y s : List ℕ) (at k : ℕ) → Puts (take k (drop at o)) 0 s y k → length (take k (drop at o)) ≡ k
    → take at o ++ (y ++ drop k (drop at o)) ≡ pasted o at s
part_filled o y s at k p l =
    part-back o at k (p.is ∙ pasted-end (take k (drop at o)) s 0 (omega (arith, l, p.ends))) (omega (arith, p.ends))

-- what is put at the front of a part of a buffer is put there
pub part-front : (o s : List ℕ) {y : List ℕ} (at k : ℕ) → at + k ≤ length o → length s ≤ k
    → y ≡ pasted (take k (drop at o)) 0 s → take at o ++ (y ++ drop k (drop at o)) ≡ pasted o at s
unfolding pasted
part-front o s at k room short e =
    let x = drop at o in
    let n = length s in
    let long : length (take k x) ≡ k = length-take-le k x (simp length-drop (omega arith)) in
    let z : 0 + n ≡ n = omega arith in
    let rest : drop (0 + n) (take k x) ++ drop k x ≡ drop (at + n) o =
    ap (λ (m : ℕ). drop m (take k x) ++ drop k x) z
    ∙ sym (drop-append-le n (take k x) (drop k x) (omega (arith, long)))
    ∙ ap (drop n) (take-append-drop k x)
    ∙ drop-drop n at o in
    ap (λ (l : List ℕ). take at o ++ (l ++ drop k x)) e
    ∙ ap (λ (l : List ℕ). take at o ++ l) (append_assoc s (drop (0 + n) (take k x)) (drop k x))
    ∙ ap (λ (l : List ℕ). take at o ++ (s ++ l)) rest

-- the reply to the packet p, at place k of the tree of depth d whose rows are lent
module _ (p : List ℕ) (k : ℕ) (rows : List ℕ) (d : ℕ) (said : Said) (cert : List ℕ)
    (good : request_bad p ≡ false) (r32 : length said.root ≡ 32) (s64 : length said.signature ≡ 64) where
  abbrev path : List ℕ
  path = flat (path_in rows d k)

  abbrev a : Reply
  a = reply p k said.root path said.midp said.radi cert said.signature

  sized : Sized a
  sized = record { nonce-long = (lent-body p refl good).1.nonc-long; root-long = r32; signature-long = s64 }

  module _ (o : List ℕ) {d1 d2 d3 nonce y : List ℕ} {n m : ℕ} (wide : n ≡ 32 * d) (same : m ≡ n)
      (room : 264 + 32 * d + length cert ≤ length o)
      (front : d1 ≡ pasted o 0 (front_bytes said.signature nonce n (length cert)))
      (told : nonce ≡ value_of (body p) NONC)
      (read : Puts (take m (drop 168 d1)) 0 path y (32 * d))
      (back : d2 ≡ take 168 d1 ++ (y ++ drop m (drop 168 d1)))
      (behind : d3 ≡ pasted d2 (168 + n) (behind_bytes said.root said.midp said.radi cert k)) where
    pub answer-length : length (answer_in p k rows d said cert) ≡ 264 + 32 * d + length cert
    unfolding answer_in
    answer-length = length-response a sized ∙ omega (arith, read.ends)

    pub answer-whole : d3 ≡ pasted o 0 (answer_in p k rows d said cert)
    unfolding answer_in rest_bytes
    answer-whole =
        let c = length cert in
        let long : length path ≡ 32 * d = omega (arith, read.ends) in
        let nonce-is : nonce ≡ nonce_of a = told in
        let head = front_bytes said.signature (nonce_of a) (length path) c in
        let tail = behind_bytes said.root said.midp said.radi cert k in
        let w1 =
        puts_one head 168
        (front ∙ ap₂ (λ (l : List ℕ) (m : ℕ). pasted o 0 (front_bytes said.signature l m c)) nonce-is
        (wide ∙ sym long))
        (omega (arith, length_front said.signature (nonce_of a) (length path) c s64 sized.nonce-long))
        (omega arith) in
        let size = puts-length w1 in
        let part : length (take m (drop 168 d1)) ≡ m =
        length-take-le m (drop 168 d1) (simp length-drop (omega (arith, size))) in
        let all : 32 * d ≡ m = sym (same ∙ wide) in
        let whole = subst (λ (e : ℕ). Puts (take m (drop 168 d1)) 0 path y e) all read in
        let filled = back ∙ part_filled d1 y path 168 m whole part in
        let w2 = puts-put path (168 + n) w1 filled (omega arith) (omega arith) in
        let w3 =
        puts-put tail (264 + n + c) w2 behind
        (omega (arith, length-behind said.root said.midp said.radi cert k r32)) (omega arith) in
        (puts-as (append_assoc head path tail ∙ sym (response-is a sized)) w3).is

-- ---- One packet, at a slot

module _ {stays t : Bool} (is : t ≡ stays) (answer : List ℕ) (at : ℕ) (o : List ℕ) (k : ℕ) where
  pub one-put : {out : List ℕ} → t ≡ true → at + length answer ≤ length o → out ≡ pasted o at answer
      → AnsweredOne stays answer at o k out (k + 1)
  one-put holds room e =
      let q : stays ≡ true = sym is ∙ holds in
      rw q (record { next = refl; is = e; long = ap length e ∙ length-pasted o answer at room })

  pub one_left : t ≡ false → AnsweredOne stays answer at o k o k
  one_left fails =
      let q : stays ≡ false = sym is ∙ fails in
      rw q (record { next = omega arith; is = refl; long = refl })

-- ---- One after the other

-- the answer to packet i at place k is `at k i`
module _ (stays : ℕ → Bool) (at : ℕ → ℕ → List ℕ) (room : ℕ) (o : List ℕ) where
  pub out-next : (i : ℕ) {out next : List ℕ} {k r : ℕ} → out ≡ out_after stays (λ j. at (how_many stays j) j) room o i
      → k ≡ how_many stays i → AnsweredOne (stays i) (at k i) (room * i) out k next r
      → next ≡ out_after stays (λ j. at (how_many stays j) j) room o (i + 1)
  unfolding out_after
  out-next i e q t =
      t.is
      ∙ ap₂ (λ (l : List ℕ) (m : ℕ). cond (stays i) (pasted l (room * i) (at m i)) l) e q
      ∙ ap (out_after stays (λ j. at (how_many stays j) j) room o) (sym (add-one i))
