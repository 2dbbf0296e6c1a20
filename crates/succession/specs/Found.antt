-- The lists of the code's structs. Definitions only.
use Rattle.std.specs.Prelude.{ℕ, Bool, List}
use Rattle.succession.specs.Finished.{finished_at, finished_from, wants}
use Rattle.succession.specs.declared.back.AllFound.{AllFound}
use Rattle.succession.specs.declared.back.Found.{Found}

-- a lane's finished list
abbrev pub list_of : Found → List ℕ
list_of f = finished_from f.lanes.lanes.now f.mine.now f.finders.now f.row

-- which links back it wants, by identity
abbrev pub wanted_by : Found → ℕ → Bool
wanted_by f = wants f.lanes.lanes.now f.mine.now

-- every lane's finished list
abbrev pub onward_of : AllFound → ℕ → List ℕ
onward_of f = finished_at f.lanes.lanes.now f.own.offsets.now f.own.ids.now f.finders.offsets.now f.finders.ids.now
