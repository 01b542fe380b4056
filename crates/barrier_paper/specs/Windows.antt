-- Parts of a barrier paper, by its words: a case is handed out as the words from its case word up to the next case or step,
-- a line as those from its line word up to the next line.
use Rattle.std.specs.Prelude.{ℕ, zero, suc, Bool, false, cond, ◌||◌, List, [], ◌∷◌, length, ℤ, pos, ◌+ℤ◌, ◌==◌, nat_le}
use Rattle.words.specs.Words.{kind, field}
use Rattle.paper.specs.Limits.{most_evidence_words}
use Rattle.barriers.specs.Lines.{Line, no_line}
use Rattle.barrier_paper.specs.Document.{signed, weight_said}

-- the words from word number n, from 0, of kind k on
abbrev pub from_nth : ℕ → ℕ → List ℕ → List ℕ
from_nth k n [] = []
from_nth k zero (w ∷ ws) = cond (kind w == k) (w ∷ ws) (from_nth k zero ws)
from_nth k (suc n) (w ∷ ws) = cond (kind w == k) (from_nth k n ws) (from_nth k (suc n) ws)

-- the words before the first that ends a part: of kind k, or a step
abbrev pub before : ℕ → List ℕ → List ℕ
before k [] = []
before k (w ∷ ws) = cond (kind w == k || kind w == 10) [] (w ∷ before k ws)

-- a part that begins with a word of kind k: that word, and what follows it up to the next of its kind or a step
abbrev pub part : ℕ → List ℕ → List ℕ
part k [] = []
part k (w ∷ ws) = w ∷ before k ws

-- how many words are of kind k
abbrev pub count_kind : ℕ → List ℕ → ℕ
count_kind k [] = 0
count_kind k (w ∷ ws) = cond (kind w == k) (suc (count_kind k ws)) (count_kind k ws)

-- case i of a paper, and line l of a case
abbrev pub case_part : ℕ → List ℕ → List ℕ
case_part i ws = part 6 (from_nth 6 i ws)

abbrev pub line_part : ℕ → List ℕ → List ℕ
line_part l ws = part 7 (from_nth 7 l ws)

-- the steps and their matches, and all that comes before them
abbrev pub steps_part : List ℕ → List ℕ
steps_part ws = from_nth 10 zero ws

abbrev pub before_steps : List ℕ → List ℕ
before_steps ws = before 10 ws

-- what a word gives tank r, if it is a weight word of kind k, and what the words of a part give it
abbrev pub word_weight : ℕ → ℕ → ℕ → ℤ
word_weight k w r = cond (kind w == k) (cond ((weight_said w).tank == r) (signed (weight_said w)) (pos 0)) (pos 0)

abbrev pub part_weight : ℕ → List ℕ → ℕ → ℤ
part_weight k [] r = pos 0
part_weight k (w ∷ ws) r = word_weight k w r +ℤ part_weight k ws r

-- whether the line word, the first of a part, says strict
abbrev pub part_strict : List ℕ → Bool
part_strict [] = false
part_strict (w ∷ ws) = field w 0 1 == 1

-- the line that a part says: the words of kind 8 are its left weights, those of kind 9 its right weights
abbrev pub part_line : List ℕ → Line
part_line ws = record { left = part_weight 8 ws; right = part_weight 9 ws; strict = part_strict ws }

-- the same where a part may be as long as no paper is: then it says nothing, which keeps the sums small
abbrev pub line_said : List ℕ → Line
line_said ws = cond (nat_le (length ws) most_evidence_words) (part_line ws) no_line
