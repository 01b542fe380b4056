-- What a reader has yet to read.
use Rattle.std.specs.Prelude.{ℕ, List, drop}
use Rattle.words.specs.Words.{words}
use Rattle.words.specs.Placed.{placed}
use Rattle.words.specs.declared.word.Word.{Word}
use Rattle.words.specs.declared.reader.Reader.{Reader}

abbrev pub left : Reader → List ℕ
left r = drop r.at (words r.bytes.now)

-- the same with their places
abbrev pub to_come : Reader → List Word
to_come r = placed r.at (left r)
