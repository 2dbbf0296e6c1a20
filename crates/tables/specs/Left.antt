-- What the checks leave in the arrays that they are lent. Definitions only.
use Rattle.std.specs.Prelude.{List, ℕ}
use Rattle.words.specs.Chain.{Empty}
use Rattle.words.specs.declared.map.MapTables.{MapTables}
use Rattle.rules.specs.ByRow.{Linked}
use Rattle.tables.specs.declared.verdict.Links.{Links}

-- nothing is linked
abbrev pub Fresh : Links → Type 0
Fresh k = Empty k.roads.heads k.roads.next × Empty k.places.heads k.places.next

-- the roads are linked by name, each lane has its road, the lanes are linked by place
abbrev pub Left : MapTables → List ℕ → Links → Type 0
Left m lanes k =
    Linked m.text.now m.roads.now lanes k.roads.heads k.roads.next k.owner k.places.heads k.places.next
