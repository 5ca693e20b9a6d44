use Rattle.host_tree.proofs.Listings.{listing_is}
use Rattle.host_tree.proofs.listing.listing.Goals as goal

pub returns : goal.returns
returns c = listing_is c.args.files.now c.args.dir.now c.in_ok-paths.paths.items c.sort_unstable.new.self.items c.dedup.new.self.items c.in_ok-paths.ensures c.sort_unstable.ensures.permutation c.sort_unstable.ensures.sorted c.dedup.ensures.filtered
