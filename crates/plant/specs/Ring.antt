-- A ring main of n tanks: valve i takes 1 from tank i and gives 1 to the next tank, the last one to tank 0.
use Rattle.std.specs.Prelude.{ℕ, ◌+◌, ◌%◌, cond, ◌&&◌, ◌==◌, nat_le, nat_lt}
use Rattle.plant.specs.Limits.{most_tanks, least_ring}
use Rattle.plant.specs.Net.{Net, empty}

abbrev pub ring : ℕ → Net
ring n = record {
  tanks = n;
  valves = n;
  opens = λ t. nat_lt t n;
  intake = λ t r. cond (nat_lt t n && r == t) 1 0;
  outlet = λ t r. cond (nat_lt t n && r == (t + 1) % n) 1 0;
}

-- a ring of any other size is the empty plant
abbrev pub ring_main : ℕ → Net
ring_main n = cond (nat_le least_ring n && nat_le n most_tanks) (ring n) empty
