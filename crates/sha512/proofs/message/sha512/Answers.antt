-- `sha512::message::sha512` meets its contract.
use Rattle.std.proofs.Common.{ℕ, ◌-◌, ◌%◌, List, ◌++◌, length, take, drop, refl, ap, ◌∙◌}
use Rattle.sha512_block.specs.HashValue.{hashed}
use Rattle.sha512_block.proofs.HashValue.{hashed-rest}
use Rattle.sha512.specs.Computation.{digest, Sha512}
use Rattle.sha512.specs.InitialHash.{H0}
use Rattle.sha512.specs.Padding.{padding}
use Rattle.sha512.proofs.message.sha512.Goals as goal

pub returns : goal.returns
unfolding Sha512
returns c =
    let s : List ℕ = c.args.s.now in
    let z : List ℕ = padding (length s) in
    let a : ℕ = length s - length s % 128 in
    let t : List ℕ = take (length s - a) (drop a s) in
    let blocks = c.hash_blocks-h.ensures ∙ ap (λ (h : List ℕ). hashed h s) c.initial_hash.ensures in
    c.digest.ensures
    ∙ ap digest
    (c.last.ensures
    ∙ ap (λ (h : List ℕ). hashed h (t ++ z)) blocks
    ∙ hashed-rest H0 s z t a refl refl)
