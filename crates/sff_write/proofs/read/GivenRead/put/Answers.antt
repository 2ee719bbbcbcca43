use Prim.Native.Nat.{◌+◌, ◌*◌}
use native.Mathlib.Omega.{arith}
use lib.ListN.{length}
use Rattle.sff_write.specs.Read.{read_of}
use Rattle.sff_write.proofs.read.Laws.{size_is, length_read, read_put}
use Rattle.sff_write.proofs.read.GivenRead.put.Goals as goal

pub put_header-requires : goal.put_header-requires
put_header-requires c =
    let g = c.args in
    let r = read_of g.self.now in
    let k = length_read g.d r c.requires.lengths_fit.3 c.requires.lengths_fit.4 in
    let y = size_is (16 + length g.self.now.name.now) _ c.padding_behind-front.ensures.0 in
    omega (arith, c.requires.has_room)

pub put_bases-requires : goal.put_bases-requires
put_bases-requires c =
    let g = c.args in
    let r = read_of g.self.now in
    let k = length_read g.d r c.requires.lengths_fit.3 c.requires.lengths_fit.4 in
    let y = size_is (16 + length g.self.now.name.now) _ c.padding_behind-front.ensures.0 in
    let z = size_is (2 * length g.self.now.flows.now + 3 * length g.self.now.letters.now) _ c.padding_behind-behind.ensures.0 in
    omega (arith, c.requires.has_room, c.requires.lengths_fit)

pub returns : goal.returns
returns c =
    let g = c.args in
    let r = read_of g.self.now in
    read_put _ _ _ g.p _ _ g.d r c.padding_behind-front.ensures.0 c.padding_behind-behind.ensures.0 c.put_header.ensures c.put_words.ensures c.put_bases.ensures c.requires.has_room
