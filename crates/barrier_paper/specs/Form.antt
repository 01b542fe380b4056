-- The form of a barrier paper, word by word: cases with their lines and weights, then steps with their matches.
use Rattle.std.specs.Prelude.{ℕ, ◌+◌, ◌-◌, cond, ◌&&◌, List, ◌++◌, length, take, drop, replicate, Ok, Err, Result, ◌==◌, nat_le, nat_lt, slice_index, slice_set}
use Rattle.words.specs.declared.faults.PaperFault.{PaperFault}
use Rattle.words.specs.declared.faults.PaperFault.TheVariants.{Kind, Unnamed, Limit, Order, Count, Due}
use Rattle.words.specs.Words.{words, kind, field}
use Rattle.words.specs.Faults.{need, within, onward}
use Rattle.paper.specs.Limits.{most_evidence_words}
use Rattle.paper.specs.Runs.{whole}
use Rattle.barrier_paper.specs.declared.form.Phase.{Phase}
use Rattle.barrier_paper.specs.declared.form.Phase.TheVariants.{Start, Case, Left, Right, Steps, Matches}
use Rattle.barrier_paper.specs.declared.form.Pending.{Pending}
use Rattle.barrier_paper.specs.declared.form.BarrierForm.{BarrierForm}
use Rattle.barrier_paper.specs.declared.line_counts.LineCounts.{LineCounts}
use Rattle.barrier_paper.specs.Limits.{most_cases, most_lines, most_line_weight}
use Rattle.barrier_paper.specs.Document.{BarrierDocument, barrier_document}

-- how many lines each case has
abbrev pub counts_of : LineCounts → List ℕ
counts_of x = take x.cases x.table

-- before the first case
abbrev pub no_case : LineCounts
no_case = record { table = replicate most_cases 0; cases = 0 }

-- with one more case, which has no line yet
abbrev pub with_case : LineCounts → LineCounts
with_case x = record { table = slice_set x.table x.cases 0; cases = x.cases + 1 }

-- so many more lines for the last case
abbrev pub last : List ℕ → ℕ
last table = length table - 1

abbrev pub longer : List ℕ → ℕ → List ℕ
longer table n = slice_set table (last table) (slice_index table (last table) + n)

-- with one more line for the last case; what stands behind the cases stays
abbrev pub with_line : LineCounts → LineCounts
with_line x = record x { table = longer (counts_of x) 1 ++ drop x.cases x.table }

abbrev pub start : ℕ → ℕ → BarrierForm
start tanks valves = record { counts = record { tanks = tanks; valves = valves }; phase = Start; lines = no_case }

-- the same form in another phase
abbrev pub in_phase : Phase → BarrierForm → BarrierForm
in_phase phase s = record s { phase = phase }

-- one more case
abbrev pub after_case : BarrierForm → BarrierForm
after_case s = record s { phase = Case; lines = with_case s.lines }

abbrev pub case : BarrierForm → ℕ → ℕ → Result BarrierForm PaperFault
case s at w =
    need (field w 0 28 == 0) (Unnamed at) (
    need (nat_lt (length (counts_of s.lines)) most_cases) (Count at) (
    Ok (after_case s)))

-- one more line for the last case
abbrev pub after_line : BarrierForm → BarrierForm
after_line s = record s { phase = Left 0; lines = with_line s.lines }

abbrev pub line : BarrierForm → ℕ → ℕ → Result BarrierForm PaperFault
line s at w =
    need (field w 1 27 == 0) (Unnamed at) (
    need (nat_lt (slice_index (counts_of s.lines) (last (counts_of s.lines))) most_lines) (Count at) (
    Ok (after_line s)))

-- what a weight word has to keep on a plant with so many tanks, its tank not below `least`
abbrev pub weight_checked : ℕ → ℕ → ℕ → ℕ → Result (Unit {0}) PaperFault
weight_checked least tanks at w =
    need (field w 15 7 == 0) (Unnamed at) (
    need (nat_lt (field w 22 6) tanks && within 1 most_line_weight (field w 0 14)) (Limit at) (
    need (nat_le least (field w 22 6)) (Order at) (
    Ok tt)))

-- a weight, left or right: `then` is the phase after it, with the least that the next tank may be
abbrev pub weight : (ℕ → Phase) → ℕ → BarrierForm → ℕ → ℕ → Result BarrierForm PaperFault
weight then least s at w = onward (weight_checked least s.counts.tanks at w) (λ _. Ok (in_phase (then (field w 22 6 + 1)) s))

-- the phase while matches are to come, and where none are
abbrev pub waiting : Pending → Phase
waiting p = cond (p.matches == 0) (Steps p.least) (Matches p)

-- the matches of a step: one for each line of the case reached, naming a line of the case left
abbrev pub after_step : BarrierForm → ℕ → Pending
after_step s w = record { matches = slice_index (counts_of s.lines) (field w 13 4); lines = slice_index (counts_of s.lines) (field w 23 4); least = field w 17 11 + 1 }

abbrev pub step : ℕ → BarrierForm → ℕ → ℕ → Result BarrierForm PaperFault
step least s at w =
    need (field w 0 13 == 0) (Unnamed at) (
    need (nat_lt (field w 23 4) (length (counts_of s.lines)) && (nat_lt (field w 17 6) s.counts.valves && nat_lt (field w 13 4) (length (counts_of s.lines)))) (Limit at) (
    need (nat_le least (field w 17 11)) (Order at) (
    Ok (in_phase (waiting (after_step s w)) s))))

abbrev pub after_match : Pending → Pending
after_match p = record p { matches = p.matches - 1 }

abbrev pub match : Pending → BarrierForm → ℕ → ℕ → Result BarrierForm PaperFault
match p s at w =
    need (nat_lt (field w 24 4) p.lines) (Limit at) (
    Ok (in_phase (waiting (after_match p)) s))

-- what comes after one more word, at the place `at`
abbrev pub by_phase : Phase → BarrierForm → ℕ → ℕ → Result BarrierForm PaperFault
by_phase Start s at w =
    cond (kind w == 6) (case s at w) (Err (Kind at))
by_phase Case s at w =
    cond (kind w == 6) (case s at w) (
    cond (kind w == 7) (line s at w) (
    cond (kind w == 10) (step 0 s at w) (Err (Kind at))))
by_phase (Left least) s at w =
    cond (kind w == 6) (case s at w) (
    cond (kind w == 7) (line s at w) (
    cond (kind w == 8) (weight Left least s at w) (
    cond (kind w == 9) (weight Right 0 s at w) (
    cond (kind w == 10) (step 0 s at w) (Err (Kind at))))))
by_phase (Right least) s at w =
    cond (kind w == 6) (case s at w) (
    cond (kind w == 7) (line s at w) (
    cond (kind w == 9) (weight Right least s at w) (
    cond (kind w == 10) (step 0 s at w) (Err (Kind at)))))
by_phase (Steps least) s at w =
    cond (kind w == 10) (step least s at w) (Err (Kind at))
by_phase (Matches p) s at w =
    cond (kind w == 11) (match p s at w) (Err (Kind at))

abbrev pub barrier_step : BarrierForm → ℕ → ℕ → Result BarrierForm PaperFault
barrier_step s at w = by_phase s.phase s at w

-- at the end no match may be due
abbrev pub ended : Phase → ℕ → Result (Unit {0}) PaperFault
ended (Matches p) at = Err (Due at)
ended _ at = Ok tt

-- on a plant with so many tanks and valves
abbrev pub barrier_form : ℕ → ℕ → List ℕ → Result BarrierForm PaperFault
barrier_form tanks valves bs =
    onward (whole barrier_step (start tanks valves) most_evidence_words bs) (λ s.
    onward (ended s.phase (length (words bs))) (λ _.
    Ok s))

-- the document that a paper is the writing of, or its first fault
abbrev pub barrier_read : ℕ → ℕ → List ℕ → Result BarrierDocument PaperFault
barrier_read tanks valves bs = onward (barrier_form tanks valves bs) (λ _. Ok (barrier_document (words bs)))
