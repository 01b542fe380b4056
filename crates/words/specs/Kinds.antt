-- The kinds of words by their numbers.
use Rattle.std.specs.Prelude.{◌≡◌, ℕ, cond, Some, None, Ok, Err, Option, Result, ◌==◌}
use Rattle.words.specs.declared.kind.Kind.{Kind}
use Rattle.words.specs.declared.kind.Kind.TheVariants.{Counts, Intake, Outlet, Divisor, Total, Case, Line, Left, Right, Step, Match, Source, Target}
use Rattle.words.specs.declared.kind.UnknownKind.{UnknownKind}

abbrev pub number_of : Kind → ℕ
number_of Counts = 1
number_of Intake = 2
number_of Outlet = 3
number_of Divisor = 4
number_of Total = 5
number_of Case = 6
number_of Line = 7
number_of Left = 8
number_of Right = 9
number_of Step = 10
number_of Match = 11
number_of Source = 12
number_of Target = 13

-- the kind that a number names; 0, 14 and what is above name none
abbrev pub kind_named : ℕ → Option Kind
kind_named n =
    cond (n == 1) (Some Counts) (cond (n == 2) (Some Intake) (cond (n == 3) (Some Outlet) (
    cond (n == 4) (Some Divisor) (cond (n == 5) (Some Total) (
    cond (n == 6) (Some Case) (cond (n == 7) (Some Line) (cond (n == 8) (Some Left) (cond (n == 9) (Some Right) (
    cond (n == 10) (Some Step) (cond (n == 11) (Some Match) (
    cond (n == 12) (Some Source) (cond (n == 13) (Some Target) None))))))))))))

-- what a number is turned into: the kind that it names, or the number itself
abbrev pub Names : ℕ → Result Kind UnknownKind → Type 0
Names n (Ok k) = kind_named n ≡ Some k
Names n (Err u) = (kind_named n ≡ None) × (u.0 ≡ n)
