-- How a line of the table is cut.
use Rattle.std.specs.Prelude.{ℕ, Bool, true, false, List, [], ◌∷◌, Some, None, Option, ◌==◌}

abbrev pub longer : ℕ → Option (List ℕ × List ℕ) → Option (List ℕ × List ℕ)
longer b None = None
longer b (Some p) = Some (b ∷ p.0, p.1)

abbrev pub opened : Bool → ℕ → List ℕ → Option (List ℕ × List ℕ) → Option (List ℕ × List ℕ)
opened true b bs rest = Some ([], bs)
opened false b bs rest = longer b rest

-- what stands before the first tab, and what after it
abbrev pub at_tab : List ℕ → Option (List ℕ × List ℕ)
at_tab [] = None
at_tab (b ∷ bs) = opened (b == 9) b bs (at_tab bs)

abbrev pub with_name : List ℕ → Option (List ℕ × List ℕ) → Option (List ℕ × List ℕ × List ℕ)
with_name name None = None
with_name name (Some p) = Some (name, p.0, p.1)

abbrev pub after_name : Option (List ℕ × List ℕ) → Option (List ℕ × List ℕ × List ℕ)
after_name None = None
after_name (Some p) = with_name p.0 (at_tab p.1)

-- the three cells of a line: up to its first tab, up to the second, and the rest
abbrev pub cells : List ℕ → Option (List ℕ × List ℕ × List ℕ)
cells line = after_name (at_tab line)
