-- What each refusal of totals says: which condition fails, at its lowest place, with all the conditions before it met.
use Rattle.std.specs.Prelude.{◌≡◌, ℕ, suc, ◌+◌, ◌*◌, ◌<◌, true, false, List, ◌∷◌, ◌++◌, length, Ok, Err}
use Rattle.plant.specs.Net.{Net, Bounded, turned}
use Rattle.plant.specs.Walk.{Firing, held}
use Rattle.plant.specs.Firings.{given, taken, named}
use Rattle.plant.specs.Starting.{Starts}
use Rattle.plant.specs.Totals.{Meets}
use Rattle.starting.specs.LeftOut.{FirstOut}
use Rattle.paper.specs.Totals.{TotalsDocument}
use Rattle.weighing.specs.declared.faults.Verdict.TheVariants.{Joined}
use Rattle.weighing.specs.declared.faults.TotalsFault.{TotalsFault}
use Rattle.weighing.specs.declared.faults.TotalsFault.TheVariants.{Closed, Unbalanced, NoStart, NoEnd}
use Rattle.weighing.specs.Judgement.{judged}

-- every totalled valve is open
abbrev pub AllOpen : Net → List Firing → Type 0
AllOpen N fs = (t : ℕ) → named fs t ≡ true → N.opens t ≡ true

-- word k of the paper, where the first total is word 1, is the first total of a closed valve
pub record FirstClosed (N : Net) (fs : List Firing) (k : ℕ) : Type 0 where
  pub before : List Firing
  pub here : Firing
  pub after : List Firing
  pub split : fs ≡ before ++ here ∷ after
  pub place : k ≡ suc (length before)
  pub opened : AllOpen N before
  pub closed : N.opens here.valve ≡ false

-- the tank's balance: divisor times what the source holds, and what is given, is divisor times what the target holds, and what is taken
abbrev pub Balances : Net → List ℕ → List ℕ → TotalsDocument → ℕ → Type 0
Balances N A B d r = d.divisor * held A r + given N d.totals r ≡ d.divisor * held B r + taken N d.totals r

-- the first tank that does not balance
pub record FirstUnbalanced (N : Net) (A B : List ℕ) (d : TotalsDocument) (r : ℕ) : Type 0 where
  pub there : r < N.tanks
  pub differs : Balances N A B d r → ⊥
  pub lowest : (s : ℕ) → s < r → Balances N A B d s

-- the totals are refused by a fault
abbrev pub Refused : Net → List ℕ → List ℕ → TotalsDocument → TotalsFault → Type 0
Refused N A B d (Closed k) = FirstClosed N d.totals k
Refused N A B d (Unbalanced r) = AllOpen N d.totals × FirstUnbalanced N A B d r
Refused N A B d (NoStart t) =
    AllOpen N d.totals
    × ((r : ℕ) → r < N.tanks → Balances N A B d r)
    × FirstOut N (held A) (named d.totals) t
Refused N A B d (NoEnd t) =
    AllOpen N d.totals
    × ((r : ℕ) → r < N.tanks → Balances N A B d r)
    × Starts N (held A) (named d.totals)
    × FirstOut (turned N) (held B) (named d.totals) t

-- totals are judged JOINED exactly when they meet the four conditions, and refused only by what is so of them
pub record TotalsAreJudgedExactly : Type 0 where
  pub joined_meets : (N : Net) → Bounded N → (A B : List ℕ) (d : TotalsDocument) → judged N A B d ≡ Ok Joined → Meets N A B d.divisor d.totals
  pub meets_joined : (N : Net) → Bounded N → (A B : List ℕ) (d : TotalsDocument) → Meets N A B d.divisor d.totals → judged N A B d ≡ Ok Joined
  pub refused_so : (N : Net) → Bounded N → (A B : List ℕ) (d : TotalsDocument) (e : TotalsFault) → judged N A B d ≡ Err e → Refused N A B d e
