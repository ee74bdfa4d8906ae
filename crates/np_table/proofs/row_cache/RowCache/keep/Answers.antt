use Rattle.std.proofs.Common.{◌<◌, List, Option, length, arith, subst}
use Rattle.np_table.proofs.KeptLemmas.{cached_count-more}
use Rattle.np_table.proofs.row_cache.RowCache.keep.Goals as goal
use Rattle.np_table.specs.Prelude.{CachedConns, CachesTheSame}

pub returns-clause-count : goal.returns-clause-count
returns-clause-count c none =
    let room : c.args.kind < length c.make_places.new.by_kind.items = omega (arith, c.in_ok-make_places.ensures.all, c.requires.kind) in
    let same : CachesTheSame c.args.self.now c.make_places.new.by_kind.items = subst
    (λ (old : List (Option (List CachedConns))). CachesTheSame old c.make_places.new.by_kind.items) c.self.view_is c.make_places.ensures.same in
    cached_count-more c.args.self.now c.make_places.new.by_kind.items c.args.kind c.in_ok-conns.conns room same none
