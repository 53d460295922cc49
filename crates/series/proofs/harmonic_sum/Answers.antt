use Rattle.series.proofs.Evaluated.{values_hold}
use Rattle.series.proofs.Terms.{sums_asked}
use Rattle.series.proofs.harmonic_sum.Goals as goal

pub returns-in_err-check_words-clause-values : goal.returns-in_err-check_words-clause-values
returns-in_err-check_words-clause-values g c = values_hold

pub returns-clause-answer : goal.returns-clause-answer
returns-clause-answer g c =
    let made = c.in-Ok.ensures in
    sums_asked g.S.Source.coming c.args.source.now c.rounded_terms.new.source c.rounded_terms.result (cc) (cc) c.rounded_terms.ensures

pub returns-clause-values : goal.returns-clause-values
returns-clause-values g c = values_hold
