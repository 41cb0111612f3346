-- `pile_signed::listing::answer_bytes` meets its contract. The answers of the records passed stand in their places.
use mathlib.Core.Path.{◌≡◌, refl, sym, ap, ◌∙◌}
use mathlib.Core.List.{List}
use Prim.Native.Nat.{ℕ, ◌+◌, ◌*◌, ◌≤◌, ◌<◌}
use native.Mathlib.Omega.{arith}
use lib.ListN.{length, get_or, set, length-set}
use Rattle.laws.proofs.Fill.{fill-next}
use Rattle.pile_signed.specs.OwnAnswers.{delegated_at, responded_at, answer_byte}
use Rattle.check_signatures.specs.declared.Verified.{Verified}
use Rattle.pile_signed.proofs.Own.{own_answer, own-delegation, own-response, own-front}
use Rattle.pile_signed.proofs.listing.answer_bytes.Goals as goal

-- one record more: its two answers are put behind those of the records before it

pair-next : (pile bytes : List ℕ) (k d s : ℕ) → 2 * k + 2 ≤ length bytes
    → ((i : ℕ) → i < 2 * k → get_or bytes i 0 ≡ own_answer pile i) → d ≡ own_answer pile (2 * k)
    → s ≡ own_answer pile (2 * k + 1) → (i : ℕ) → i < 2 * (k + 1)
    → get_or (set (set bytes (2 * k) d) (2 * k + 1) s) i 0 ≡ own_answer pile i
pair-next pile bytes k d s h old e f i l =
    fill-next (own_answer pile) 0 (set bytes (2 * k) d) (2 * k + 1) s (simp length-set (omega arith))
    (fill-next (own_answer pile) 0 bytes (2 * k) d (omega arith) old e) f i (omega arith)

pub loop-k-init : goal.loop-k-init
loop-k-init c = (omega arith, refl, λ i l. absurd (omega arith))

pub record_at-r-requires : goal.record_at-r-requires
record_at-r-requires c = omega (arith, c.requires.exact)

pub bounds-bytes-k : goal.bounds-bytes-k
bounds-bytes-k c = omega (arith, c.requires.to)

pub overflow_mul-bytes : goal.overflow_mul-bytes
overflow_mul-bytes c = omega (arith, c.requires.to)

pub overflow_mul-bytes-in-loop-k : goal.overflow_mul-bytes-in-loop-k
overflow_mul-bytes-in-loop-k c = omega (arith, c.requires.to)

pub overflow_add-bytes : goal.overflow_add-bytes
overflow_add-bytes c = omega (arith, c.requires.to)

pub bounds-bytes-k-in-loop-k : goal.bounds-bytes-k-in-loop-k
bounds-bytes-k-in-loop-k c = omega (arith, c.requires.to)

pub loop-k-preserved : goal.loop-k-preserved
loop-k-preserved c =
    let loop = c.loop-k in
    let p = c.args.pile.now in
    let k = loop.k in
    let a : c.answers_in-a.result ≡ record { delegation = delegated_at p k; signature = responded_at p k } =
    rw c.record_at-r.ensures at c.answers_in-a.ensures in (
      omega arith,
      simp length-set loop.invariant.1,
      pair-next p loop.bytes k c.answer_byte.result c.answer_byte-in-loop-k.result
          (omega (arith, c.requires.to)) loop.invariant.2
          (c.answer_byte.ensures
          ∙ ap (λ (x : Verified). answer_byte x.delegation) a
          ∙ sym (own-delegation p k))
          (c.answer_byte-in-loop-k.ensures ∙ ap (λ (x : Verified). answer_byte x.signature) a ∙ sym (own-response p k)),
    )

pub returns : goal.returns
returns c =
    let loop = c.loop-k in (
      loop.invariant.1,
      own-front _ loop.bytes (omega (arith, c.requires.to)) (λ i l. loop.invariant.2 i (omega arith)),
    )
