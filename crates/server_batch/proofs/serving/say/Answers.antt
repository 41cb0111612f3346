-- `server_batch::serving::say` meets its contract.
use mathlib.Core.List.{List}
use mathlib.Core.Path.{◌≡◌, refl, ap, ◌∙◌}
use Prim.Native.Nat.{ℕ, ◌*◌, ◌-◌}
use native.Mathlib.Omega.{arith}
use lib.ListN.{take, drop}
use lib.Pow.{pow_pos}
use Rattle.tree.specs.Tree.{node_in}
use Rattle.tree_build.specs.AllRows.{nodes_of}
use Rattle.server_batch.specs.Answering.{signature_over}
use Rattle.server_batch.proofs.serving.say.Goals as goal

pub overflow_sub-bytes : goal.overflow_sub-bytes
overflow_sub-bytes c = omega (arith, c.bytes.ensures, pow_pos c.args.d)

pub copy32-root-requires : goal.copy32-root-requires
copy32-root-requires c = omega (arith, c.bytes.ensures, pow_pos c.args.d, c.requires.1)

-- the root is the last node
pub returns : goal.returns
unfolding node_in
returns c =
    let a = c.args in
    let e : c.bytes.result - 32 ≡ 32 * (nodes_of a.d - 1) =
    omega (arith, c.bytes.ensures, pow_pos a.d) in
    let root : c.copy32-root.result ≡ node_in a.rows.now (nodes_of a.d - 1) =
    c.copy32-root.ensures ∙ ap (λ (n : ℕ). take 32 (drop n a.rows.now)) e in
    let signature = c.sign_root-signature.ensures
    ∙ ap (λ (l : List ℕ). signature_over a.service.now.seed l a.service.now.midp a.service.now.radi) root in
    (rw (signature, root) refl, record { root = omega arith; signature = omega arith })
