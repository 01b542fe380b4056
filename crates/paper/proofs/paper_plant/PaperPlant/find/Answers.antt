use Rattle.std.proofs.Common.{◌/◌, ◌^◌, eqb, ap, ◌∙◌, rules}
use Rattle.std.specs.Option.{option_map}
use Rattle.words.specs.Words.{words}
use Rattle.std.proofs.lemmas.Map.Entries.{option_filter}
use Rattle.words.proofs.Options.{filtered}
use Rattle.paper.proofs.Searching.{found}
use Rattle.paper.proofs.paper_plant.PaperPlant.find.Goals as goal

pub returns : goal.returns
returns c =
    let is = filtered (λ w. eqb (w.bits / 2 ^ 16) c.args.key) (λ w b h. search rules) c.word_at.result c.filter.result c.filter.ensures in
    ap (option_map _) (is ∙ ap (option_filter _) c.word_at.ensures)
    ∙ found c.args.key c.seek.result (words c.args.self.now.arcs.now) c.args.self.now.rises c.seek.ensures.before c.seek.ensures.after
