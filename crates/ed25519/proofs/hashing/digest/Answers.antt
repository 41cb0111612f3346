-- `ed25519::hashing::digest` meets its contract.
use Prim.Native.Nat.{ℕ, ◌+◌}
use mathlib.Core.Path.{◌≡◌, ap, ◌∙◌}
use mathlib.Core.List.{List, [], ◌++◌, append_assoc}
use native.Mathlib.Omega.{arith}
use lib.ListN.{length, length-append}
use Rattle.sha512.specs.Computation.{Sha512}
use Rattle.sha512.specs.State.{state_digest}
use Rattle.sha512.proofs.State.{digest-is}
use Rattle.sha512.proofs.Whole.{then}
use Rattle.ed25519.proofs.hashing.digest.Goals as goal

pub returns : goal.returns
returns c =
    let g = c.args in
    let r : List ℕ = g.r.now in
    let a : List ℕ = g.a.now in
    let x : List ℕ = g.context.now in
    let t : List ℕ = g.text.now in
    let fits = c.requires in
    let ra : length (r ++ a) ≡ length r + length a = length-append r a in
    let rax : length ((r ++ a) ++ x) ≡ length (r ++ a) + length x = length-append (r ++ a) x in
    let all : length (((r ++ a) ++ x) ++ t) ≡ length ((r ++ a) ++ x) + length t = length-append ((r ++ a) ++ x) t in
    let s1 = then [] r _ _ c.start.ensures c.update-first.ensures in
    let s2 = then r a _ _ s1 c.update-second.ensures in
    let s3 = then (r ++ a) x _ _ s2 c.update-third.ensures in
    let s4 = then ((r ++ a) ++ x) t _ _ s3 c.update.ensures in
    c.finish.ensures ∙ ap state_digest s4
    ∙ digest-is (((r ++ a) ++ x) ++ t) (omega (arith, ra, rax, all, fits))
    ∙ ap Sha512 (append_assoc (r ++ a) x t ∙ append_assoc r a (x ++ t))
