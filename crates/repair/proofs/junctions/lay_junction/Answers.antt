use Rattle.model.specs.Tables.{Tables}
use Rattle.words.specs.Map.{map_read}
use Rattle.repair.specs.Ready.{Ready}
use Rattle.repair.proofs.JunctionSteps.{direct_connections, other_connections, part_of, room_back, room_own}
use Rattle.repair.proofs.JunctionSteps.{twice_more, twice_own}
use Rattle.repair.proofs.Piles.{laid_on, laid_same}
use Rattle.repair.proofs.junctions.lay_junction.Goals as goal

pub put_own-requires : goal.put_own-requires
put_own-requires c =
    let j = c.args.junction.now in
    let t : Tables = map_read j.reads.map in
    let ready : Ready t = j.reads.ready in
    room_own t ready.small (part_of j) c.requires

pub reversed-requires : goal.reversed-requires
reversed-requires c =
    let j = c.args.junction.now in
    let t : Tables = map_read j.reads.map in
    let ready : Ready t = j.reads.ready in
    let own = c.put_own.ensures in
    room_back t ready.small (part_of j) c.requires c.put_own.new.self own.rows own.pair_rows

pub returns-in-Direct : goal.returns-in-Direct
returns-in-Direct c =
    let j = c.args.junction.now in
    let t : Tables = map_read j.reads.map in
    let ready : Ready t = j.reads.ready in
    let own = c.put_own.ensures in
    let back = c.reversed.ensures in
    record {
      twice = twice_more t ready.small (part_of j) c.requires c.put_own.new.self own.rows own.pair_rows back.rows
          back.pair_rows;
      laid = laid_same (direct_connections _ j c.in-Direct.is) (laid_on _ _ own.laid back.laid);
    }

pub returns-in_default : goal.returns-in_default
returns-in_default c =
    let j = c.args.junction.now in
    let t : Tables = map_read j.reads.map in
    let ready : Ready t = j.reads.ready in
    let own = c.put_own.ensures in
    record {
      twice = twice_own t ready.small (part_of j) c.requires c.put_own.new.self own.rows own.pair_rows;
      laid = laid_same (other_connections _ j c.in_default.not-Direct) own.laid;
    }
