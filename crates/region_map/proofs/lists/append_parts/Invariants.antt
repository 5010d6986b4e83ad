use Rattle.std.proofs.Common.{◌≡◌, drop, map}
use Rattle.region_map.specs.Ranges.{parts}
use Rattle.region_map.specs.Lists.{appended_all, given, AreShort}
use Rattle.region_map.proofs.lists.append_parts.Given as goal

abbrev pub invariant-loop-region : goal.invariant-loop-region
invariant-loop-region l = record {
  list : appended_all l.list.items (map (given l.perms) (parts l.from l.to (drop l.region-index l.regions)))
      ≡ appended_all l.initial.list.items (map (given l.perms) (parts l.from l.to l.regions));
  short : AreShort (drop l.region-index l.regions);
}
