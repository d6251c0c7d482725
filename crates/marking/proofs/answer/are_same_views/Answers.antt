use Rattle.std.proofs.Common.{◌∙◌, rules}
use Rattle.compactions.specs.Meanings.{view_of}
use Rattle.marking.specs.Marking.{same_view}
use Rattle.marking.proofs.Alike.{alike-map}
use Rattle.marking.proofs.answer.are_same_views.Goals as goal

pub returns : goal.returns
returns c =
    c.are_alike.ensures (λ v w. same_view (view_of v) (view_of w)) (λ x y b h. search rules)
    ∙ alike-map (λ v w. same_view (view_of v) w) view_of c.args.claimed.now c.args.views.now
