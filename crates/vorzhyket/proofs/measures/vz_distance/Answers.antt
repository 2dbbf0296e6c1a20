-- `vz_distance`: the distance of the segments between the four points, and the two places.
use mathlib.Core.Path.{ap, ◌∙◌}
use mathlib.Core.List.{[], ◌∷◌}
use Rattle.geometry.specs.Segment.{closest_of}
use Rattle.vorzhyket.specs.Exported.{exported_closest}
use Rattle.vorzhyket.proofs.measures.vz_distance.Goals as goal

pub returns : goal.returns
returns c =
    let p = c.point_at-p.ensures in
    let q = c.point_at-q.ensures in
    let r = c.point_at-r.ensures in
    let s = c.point_at-s.ensures in
    ap exported_closest (c.distance-closest.ensures ∙ (λ i. closest_of (p i ∷ q i ∷ []) (r i ∷ s i ∷ [])))
