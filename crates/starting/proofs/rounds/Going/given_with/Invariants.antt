use Rattle.std.proofs.Common.{◌≡◌, ℕ, false, ◌&&◌, ◌||◌, ltb, length, get_or}
use Rattle.starting.proofs.rounds.Going.given_with.Given as goal

abbrev pub invariant-loop-tank : goal.invariant-loop-tank
invariant-loop-tank g l = (length l.given ≡ 64) × ((r : ℕ) → get_or l.given r false ≡ (get_or l.initial.given r false || (ltb r l.tank && ltb 0 ((g.P.Plant.meaning l.self.plant.now).outlet l.valve r))))
