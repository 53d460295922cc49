use Rattle.std.proofs.Common.{sym, subst}
use Rattle.lines.specs.declared.format_names.FormatName.TheVariants.{Fixed}
use Rattle.lines.specs.declared.query.Query.{Query}
use Rattle.answers.specs.Answers.{told, Answers, EndsAnswer}
use Rattle.answers.proofs.Shown.{in_format}
use Rattle.answers.proofs.answering.answered.Goals as goal

pub returns-in_ok-format-in-Operate : goal.returns-in_ok-format-in-Operate
returns-in_ok-format-in-Operate c =
    subst (λ (q : Query). Answers q (told c.operated.result)) (sym c.in-Operate.is)
    (in_format c.in-Operate.format c.in_ok-format-in-Operate.format c.in_ok-format-in-Operate.ensures _ (told c.operated.result) c.operated.ensures)

pub returns-in_ok-named-in-Split : goal.returns-in_ok-named-in-Split
returns-in_ok-named-in-Split c =
    subst (λ (q : Query). Answers q (told c.split.result)) (sym c.in-Split.is)
    (in_format c.in-Split.format c.in_ok-named-in-Split.field-0 c.in_ok-named-in-Split.ensures _ (told c.split.result) c.split.ensures)

pub returns-in_ok-named-in-Next : goal.returns-in_ok-named-in-Next
returns-in_ok-named-in-Next c =
    subst (λ (q : Query). Answers q (told c.neighbours.result)) (sym c.in-Next.is)
    (in_format c.in-Next.format c.in_ok-named-in-Next.field-0 c.in_ok-named-in-Next.ensures _ (told c.neighbours.result) c.neighbours.ensures)

pub returns-in_ok-named-in-Size : goal.returns-in_ok-named-in-Size
returns-in_ok-named-in-Size c =
    subst (λ (q : Query). Answers q c.ends.result) (sym c.in-Size.is)
    (in_format (Fixed c.in-Size.sizes) c.in_ok-named-in-Size.field-0 c.in_ok-named-in-Size.ensures EndsAnswer c.ends.result c.ends.ensures)
