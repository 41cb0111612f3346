-- `report_write::pieces::put_code` meets its contract.
use borrow.Author.Rules.{rules}
use native.Mathlib.Omega.{arith}
use Prim.Native.Nat.{◌+◌, ◌*◌, ◌/◌, ◌≤◌}
use mathlib.Core.Path.{sym}
use lib.ListN.{length}
use Rattle.laws.proofs.Pasted.{length_part}
use Rattle.base64_strict.proofs.Encodes.{encode-length}
use Rattle.report_write.proofs.Puts.{code-back}
use Rattle.report_write.proofs.pieces.put_code.Goals as goal

pub overflow_add-at : goal.overflow_add-at
overflow_add-at c =
    let l = encode-length c.args.s.now in let h = c.requires in search rules

pub slice_bounds-encode-end : goal.slice_bounds-encode-end
slice_bounds-encode-end c =
    let l = encode-length c.args.s.now in let h = c.requires in
    search rules

pub encode-requires : goal.encode-requires
encode-requires c =
    let a = c.args in
    let l = encode-length a.s.now in
    let n = (length a.s.now + 2) / 3 * 4 in
    let h : a.at + (length a.s.now + 2) / 3 * 4 ≤ length a.out.now =
    omega (arith, c.requires) in
    omega (arith, length_part a.out.now a.at (a.at + (length a.s.now + 2) / 3 * 4) (omega arith) h)

pub overflow_add-result : goal.overflow_add-result
overflow_add-result c =
    let l = encode-length c.args.s.now in
    let h = c.requires in search rules

pub returns : goal.returns
returns c =
    let a = c.args in
    let l = encode-length a.s.now in
    let n = (length a.s.now + 2) / 3 * 4 in
    let h : a.at + (length a.s.now + 2) / 3 * 4 ≤ length a.out.now =
    omega (arith, c.requires) in
    record {
      is = code-back a.s.now a.out.now a.at ((length a.s.now + 2) / 3 * 4) (sym l) h
          c.encode.ensures;
      ends = omega arith;
      fits = omega arith;
    }
