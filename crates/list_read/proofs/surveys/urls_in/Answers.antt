use borrow.Author.Rules.{rules}
use mathlib.Core.Path.{◌≡◌}
use Rattle.report_read.specs.Entry.{elements_of}
use Rattle.list_read.specs.Server.{in_servers}
use Rattle.list_read.specs.Listed.{all_urls, url_at, is_url}
use Rattle.list_read.specs.Facts.{left, of_sort}
use Rattle.list_read.proofs.Items.{fuel, urls}
use Rattle.list_read.proofs.surveys.urls_in.Goals as goal

pub loop-at-init : goal.loop-at-init
loop-at-init c = search (urls, rules)

pub returns : goal.returns
returns c = search (urls, rules)

pub returns-then-not-is_sort : goal.returns-then-not-is_sort
unfolding url_at is_url of_sort
returns-then-not-is_sort c = search (urls, rules)

pub loop-at-smaller : goal.loop-at-smaller
loop-at-smaller c = search (urls, rules)

pub loop-at-preserved : goal.loop-at-preserved
unfolding url_at is_url of_sort
loop-at-preserved c = search (urls, rules)
