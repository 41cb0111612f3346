-- `json_quote::quoting::put_octet` meets its contract.
use mathlib.Core.Path.{sym}
use Rattle.laws.proofs.Written.{puts-as}
use Rattle.json_quote.proofs.Quotes.{escaped-quote, escaped-slash, escaped-low, escaped-plain}
use Rattle.json_quote.proofs.quoting.put_octet.Goals as goal

pub put_run-requires : goal.put_run-requires
put_run-requires c = rw (escaped-quote _ c.if-b-eq34.true) at c.requires

pub returns-then-b-eq34 : goal.returns-then-b-eq34
returns-then-b-eq34 c =
    puts-as (sym (escaped-quote _ c.if-b-eq34.true)) c.put_run.ensures

pub put_run-requires-then-b-eq92 : goal.put_run-requires-then-b-eq92
put_run-requires-then-b-eq92 c =
    rw (escaped-slash _ c.if-b-eq34.false c.if-b-eq92.true) at c.requires

pub returns-then-b-eq92 : goal.returns-then-b-eq92
returns-then-b-eq92 c =
    puts-as (sym (escaped-slash _ c.if-b-eq34.false c.if-b-eq92.true)) c.put_run-then-b-eq92.ensures

pub put_run-requires-then-b-lt32 : goal.put_run-requires-then-b-lt32
put_run-requires-then-b-lt32 c =
    rw (escaped-low _ c.if-b-eq34.false c.if-b-eq92.false c.if-b-lt32.true) at c.requires

pub returns-then-b-lt32 : goal.returns-then-b-lt32
returns-then-b-lt32 c =
    let e = escaped-low _ c.if-b-eq34.false c.if-b-eq92.false c.if-b-lt32.true in
    let q = c.hex-high.ensures in
    let r = c.hex.ensures in
    puts-as (sym e) (rw (q, r) at c.put_run-then-b-lt32.ensures)

pub put_run-requires-2 : goal.put_run-requires-2
put_run-requires-2 c =
    rw (escaped-plain _ c.if-b-eq34.false c.if-b-eq92.false c.if-b-lt32.false) at c.requires

pub returns : goal.returns
returns c =
    let e = escaped-plain _ c.if-b-eq34.false c.if-b-eq92.false c.if-b-lt32.false in
    puts-as (sym e) c.put_run-2.ensures
