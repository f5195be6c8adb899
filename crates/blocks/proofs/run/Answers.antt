-- `blocks::run` meets its contract, format by format: each has a loop of its own.
-- Assumes nothing.
use Rattle.rules.specs.Channels.{rgba8_pixel}
use Rattle.rules.specs.Desktop.{bc2_pixel, bc3_pixel}
use Rattle.rules.specs.Bc7.{bc7_pixel}
use Rattle.rules.specs.Formats.{size_of, shows_of}
use Rattle.blocks.proofs.Formats.{enough, shown}
use Rattle.blocks.proofs.run.Goals as goal

pub run_colour-requires : goal.run_colour-requires
unfolding size_of
run_colour-requires c = (enough c.args.n c.in-Etc1.is c.requires.0, c.requires.1)

pub run_colour-requires-in-Etc2Rgb : goal.run_colour-requires-in-Etc2Rgb
unfolding size_of
run_colour-requires-in-Etc2Rgb c = (enough c.args.n c.in-Etc2Rgb.is c.requires.0, c.requires.1)

pub run_colour-requires-in-Etc2Rgba1 : goal.run_colour-requires-in-Etc2Rgba1
unfolding size_of
run_colour-requires-in-Etc2Rgba1 c = (enough c.args.n c.in-Etc2Rgba1.is c.requires.0, c.requires.1)

pub run_colour-requires-in-Etc2Rgba8 : goal.run_colour-requires-in-Etc2Rgba8
unfolding size_of
run_colour-requires-in-Etc2Rgba8 c = (enough c.args.n c.in-Etc2Rgba8.is c.requires.0, c.requires.1)

pub run_red-requires : goal.run_red-requires
unfolding size_of
run_red-requires c = (enough c.args.n c.in-EacR.is c.requires.0, c.requires.1)

pub run_red-requires-in-EacRSigned : goal.run_red-requires-in-EacRSigned
unfolding size_of
run_red-requires-in-EacRSigned c = (enough c.args.n c.in-EacRSigned.is c.requires.0, c.requires.1)

pub run_red_green-requires : goal.run_red_green-requires
unfolding size_of
run_red_green-requires c = (enough c.args.n c.in-EacRg.is c.requires.0, c.requires.1)

pub run_red_green-requires-in-EacRgSigned : goal.run_red_green-requires-in-EacRgSigned
unfolding size_of
run_red_green-requires-in-EacRgSigned c = (enough c.args.n c.in-EacRgSigned.is c.requires.0, c.requires.1)

pub run_bc1-requires : goal.run_bc1-requires
unfolding size_of
run_bc1-requires c = (enough c.args.n c.in-Bc1.is c.requires.0, c.requires.1)

pub run_bc1-requires-in-Bc1Alpha : goal.run_bc1-requires-in-Bc1Alpha
unfolding size_of
run_bc1-requires-in-Bc1Alpha c = (enough c.args.n c.in-Bc1Alpha.is c.requires.0, c.requires.1)

pub run_blocks-requires-clause-whole : goal.run_blocks-requires-clause-whole
unfolding size_of
run_blocks-requires-clause-whole c = (enough c.args.n c.in-Bc3.is c.requires.0, c.requires.1)

pub run_blocks-requires-in-Bc7-clause-whole : goal.run_blocks-requires-in-Bc7-clause-whole
unfolding size_of
run_blocks-requires-in-Bc7-clause-whole c = (enough c.args.n c.in-Bc7.is c.requires.0, c.requires.1)

pub run_blocks-requires-in-Bc2-clause-whole : goal.run_blocks-requires-in-Bc2-clause-whole
unfolding size_of
run_blocks-requires-in-Bc2-clause-whole c = (enough c.args.n c.in-Bc2.is c.requires.0, c.requires.1)

pub run_bc4-requires : goal.run_bc4-requires
unfolding size_of
run_bc4-requires c = (enough c.args.n c.in-Bc4.is c.requires.0, c.requires.1)

pub run_bc4-requires-in-Bc4Signed : goal.run_bc4-requires-in-Bc4Signed
unfolding size_of
run_bc4-requires-in-Bc4Signed c = (enough c.args.n c.in-Bc4Signed.is c.requires.0, c.requires.1)

pub run_bc5-requires : goal.run_bc5-requires
unfolding size_of
run_bc5-requires c = (enough c.args.n c.in-Bc5.is c.requires.0, c.requires.1)

pub run_bc5-requires-in-Bc5Signed : goal.run_bc5-requires-in-Bc5Signed
unfolding size_of
run_bc5-requires-in-Bc5Signed c = (enough c.args.n c.in-Bc5Signed.is c.requires.0, c.requires.1)

pub returns-in-Etc1 : goal.returns-in-Etc1
unfolding shows_of size_of
returns-in-Etc1 c =
    let a = c.args in
    shown a.«data».now a.pic a.bx a.by a.n a.image.now _ c.in-Etc1.is c.run_colour.ensures

pub returns-in-Etc2Rgb : goal.returns-in-Etc2Rgb
unfolding shows_of size_of
returns-in-Etc2Rgb c =
    let a = c.args in
    shown a.«data».now a.pic a.bx a.by a.n a.image.now _ c.in-Etc2Rgb.is c.run_colour-in-Etc2Rgb.ensures

pub returns-in-Etc2Rgba1 : goal.returns-in-Etc2Rgba1
unfolding shows_of size_of
returns-in-Etc2Rgba1 c =
    let a = c.args in
    shown a.«data».now a.pic a.bx a.by a.n a.image.now _ c.in-Etc2Rgba1.is c.run_colour-in-Etc2Rgba1.ensures

pub returns-in-Etc2Rgba8 : goal.returns-in-Etc2Rgba8
unfolding shows_of size_of rgba8_pixel
returns-in-Etc2Rgba8 c =
    let a = c.args in
    shown a.«data».now a.pic a.bx a.by a.n a.image.now _ c.in-Etc2Rgba8.is c.run_colour-in-Etc2Rgba8.ensures

pub returns-in-EacR : goal.returns-in-EacR
unfolding shows_of size_of
returns-in-EacR c =
    let a = c.args in
    shown a.«data».now a.pic a.bx a.by a.n a.image.now _ c.in-EacR.is c.run_red.ensures

pub returns-in-EacRSigned : goal.returns-in-EacRSigned
unfolding shows_of size_of
returns-in-EacRSigned c =
    let a = c.args in
    shown a.«data».now a.pic a.bx a.by a.n a.image.now _ c.in-EacRSigned.is c.run_red-in-EacRSigned.ensures

pub returns-in-EacRg : goal.returns-in-EacRg
unfolding shows_of size_of
returns-in-EacRg c =
    let a = c.args in
    shown a.«data».now a.pic a.bx a.by a.n a.image.now _ c.in-EacRg.is c.run_red_green.ensures

pub returns-in-EacRgSigned : goal.returns-in-EacRgSigned
unfolding shows_of size_of
returns-in-EacRgSigned c =
    let a = c.args in
    shown a.«data».now a.pic a.bx a.by a.n a.image.now _ c.in-EacRgSigned.is c.run_red_green-in-EacRgSigned.ensures

pub returns-in-Bc1 : goal.returns-in-Bc1
unfolding shows_of size_of
returns-in-Bc1 c =
    let a = c.args in
    shown a.«data».now a.pic a.bx a.by a.n a.image.now _ c.in-Bc1.is c.run_bc1.ensures

pub returns-in-Bc1Alpha : goal.returns-in-Bc1Alpha
unfolding shows_of size_of
returns-in-Bc1Alpha c =
    let a = c.args in
    shown a.«data».now a.pic a.bx a.by a.n a.image.now _ c.in-Bc1Alpha.is c.run_bc1-in-Bc1Alpha.ensures

pub returns-in-Bc3 : goal.returns-in-Bc3
unfolding shows_of size_of
returns-in-Bc3 c =
    let a = c.args in
    shown a.«data».now a.pic a.bx a.by a.n a.image.now _ c.in-Bc3.is (c.run_blocks.ensures bc3_pixel (λ d px h e. e))

pub returns-in-Bc7 : goal.returns-in-Bc7
unfolding shows_of size_of
returns-in-Bc7 c =
    let a = c.args in
    shown a.«data».now a.pic a.bx a.by a.n a.image.now _ c.in-Bc7.is (c.run_blocks-in-Bc7.ensures bc7_pixel (λ d px h e. e))

pub returns-in-Bc2 : goal.returns-in-Bc2
unfolding shows_of size_of
returns-in-Bc2 c =
    let a = c.args in
    shown a.«data».now a.pic a.bx a.by a.n a.image.now _ c.in-Bc2.is (c.run_blocks-in-Bc2.ensures bc2_pixel (λ d px h e. e))

pub returns-in-Bc4 : goal.returns-in-Bc4
unfolding shows_of size_of
returns-in-Bc4 c =
    let a = c.args in
    shown a.«data».now a.pic a.bx a.by a.n a.image.now _ c.in-Bc4.is c.run_bc4.ensures

pub returns-in-Bc4Signed : goal.returns-in-Bc4Signed
unfolding shows_of size_of
returns-in-Bc4Signed c =
    let a = c.args in
    shown a.«data».now a.pic a.bx a.by a.n a.image.now _ c.in-Bc4Signed.is c.run_bc4-in-Bc4Signed.ensures

pub returns-in-Bc5 : goal.returns-in-Bc5
unfolding shows_of size_of
returns-in-Bc5 c =
    let a = c.args in
    shown a.«data».now a.pic a.bx a.by a.n a.image.now _ c.in-Bc5.is c.run_bc5.ensures

pub returns-in-Bc5Signed : goal.returns-in-Bc5Signed
unfolding shows_of size_of
returns-in-Bc5Signed c =
    let a = c.args in
    shown a.«data».now a.pic a.bx a.by a.n a.image.now _ c.in-Bc5Signed.is c.run_bc5-in-Bc5Signed.ensures
