use borrow.Author.Rules.{rules}
use mathlib.Core.Path.{◌≡◌}
use Rattle.report_read.specs.Entry.{elements_of}
use Rattle.list_read.specs.Server.{in_servers}
use Rattle.list_read.specs.Listed.{all_urls, url_at, is_url}
use Rattle.list_read.specs.Facts.{left, of_sort}
use Rattle.list_read.proofs.Items.{fuel, urls}
use Rattle.list_read.proofs.surveys.urls_in.Given as goal

abbrev pub invariant-loop-at : goal.invariant-loop-at
invariant-loop-at l =
    all_urls l.s (left l.s in_servers l.at) ≡ all_urls l.s (elements_of l.s in_servers l.v)

abbrev pub decreases-loop-at : goal.decreases-loop-at
decreases-loop-at l = fuel l.s l.at
