-- The values of the series, computed. Assumes nothing.
use Rattle.std.proofs.Common.{refl}
use Rattle.series.specs.Harmonic.{series, Values}

-- 999 terms each, whatever k and the words are
pub values_hold : Values
unfolding series
values_hold k word = (refl, refl)
