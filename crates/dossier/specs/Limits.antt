-- How many bytes a dossier may have; src/limits.rt has the same number.
use Rattle.std.specs.Prelude.{ℕ}

abbrev pub most_input_bytes : ℕ
most_input_bytes = 65536
