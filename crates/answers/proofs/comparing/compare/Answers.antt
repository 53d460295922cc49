use Rattle.std.proofs.Common.{◌≡◌, subst, rules}
use Rattle.answers.specs.Answers.{Answers}
use Rattle.answers.proofs.comparing.compare.Goals as goal

pub returns-then-eq : goal.returns-then-eq
returns-then-eq c =
    let v = c.in-Ok-Some.vector in
    let same : c.answer-right.result ≡ v.expected = search rules in
    (v, search rules, subst (Answers v.query) same c.answer-right.ensures.right)
