-- What the writer of reports in the public format and the cut of a text promise at the C boundary: their answers are
-- told by cases.
use Rattle.refusal.specs.declared.Refusal.{Refusal}
use Rattle.std.specs.Prelude.{◌≡◌, ℕ, List, length, Result}
use Rattle.laws.specs.Written.{written}
use Rattle.report_text.specs.Forwarded.{pile_of, Forwards, forwarded_number, forwarded_bytes}
use Rattle.report_write.specs.Published.{Publishes, published_number, published_bytes}
use Rattle.c_evidence.specs.Publishing.{tb_published, tb_forwarded}
use Rattle.c_evidence.specs.declared.TbForwarded.{TbForwarded}
use Rattle.c_evidence.specs.declared.TbPublished.{TbPublished}

-- the struct tells the answer that is right of the pile and the buffer out, and the buffer holds afterwards what that
-- same answer leaves in it
pub record Tells (pile answers out : List ℕ) (told : TbPublished) (afterwards : List ℕ) : Type 0 where
  pub answer : Result ℕ (Refusal × ℕ)
  pub right : Publishes pile answers (length out) answer
  pub same : told ≡ tb_published answer
  pub left : afterwards ≡ written (published_number answer) (published_bytes answer pile) out

-- the same of a text and the run that is cut from it
pub record TellsCut (text answers out : List ℕ) (told : TbForwarded) (afterwards : List ℕ) : Type 0 where
  pub answer : Result (ℕ × ℕ × ℕ) Refusal
  pub right : Forwards text answers (length out) answer
  pub same : told ≡ tb_forwarded answer
  pub left : afterwards ≡ written (forwarded_number answer) (forwarded_bytes answer (pile_of text)) out
