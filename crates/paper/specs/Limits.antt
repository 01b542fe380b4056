-- How many words a paper may have; src/limits.rt has the same numbers.
use Rattle.std.specs.Prelude.{ℕ}

abbrev pub most_plant_words : ℕ
most_plant_words = 4096

abbrev pub most_evidence_words : ℕ
most_evidence_words = 8192
