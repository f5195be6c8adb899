-- The formats: the bytes of a block, and what they show.
-- Assumes nothing.
use Rattle.std.specs.Prelude.{true, false, ℕ}
use Rattle.rules.specs.Pixel.{Shows}
use Rattle.rules.specs.Modes.{etc1_pixel, rgb_pixel, rgba1_pixel}
use Rattle.rules.specs.Channels.{rgba8_pixel, red_pixel, red_green_pixel}
use Rattle.rules.specs.Desktop.{bc1_pixel, bc3_pixel, bc2_pixel}
use Rattle.rules.specs.Rgtc.{bc4_pixel, bc5_pixel}
use Rattle.rules.specs.Bc7.{bc7_pixel}
use Rattle.rules.specs.declared.Format.{Format}
use Rattle.rules.specs.declared.Format.TheVariants.{Etc1, Etc2Rgb, Etc2Rgba1, Etc2Rgba8, EacR, EacRSigned, EacRg, EacRgSigned}
use Rattle.rules.specs.declared.Format.TheVariants.{Bc1, Bc1Alpha, Bc3, Bc7, Bc2, Bc4, Bc4Signed, Bc5, Bc5Signed}

-- "a block has 8 bytes, or 16 for RGBA8 and both EAC RG forms"; and of M-106's, 8 for BC1, or 16 for BC3, which has two halves; and 16 for
-- BC7 (M-108); of the others, 8 for BC4, which is one half, and 16 for BC2 and BC5, which have two
unfoldable pub size_of : Format → ℕ
size_of Etc1 = 8
size_of Etc2Rgb = 8
size_of Etc2Rgba1 = 8
size_of Etc2Rgba8 = 16
size_of EacR = 8
size_of EacRSigned = 8
size_of EacRg = 16
size_of EacRgSigned = 16
size_of Bc1 = 8
size_of Bc1Alpha = 8
size_of Bc3 = 16
size_of Bc7 = 16
size_of Bc2 = 16
size_of Bc4 = 8
size_of Bc4Signed = 8
size_of Bc5 = 16
size_of Bc5Signed = 16

-- "Every accepted pixel is what the Khronos text says of its own block and place" (demand 2): what it says
unfoldable pub shows_of : Format → Shows
shows_of Etc1 = etc1_pixel
shows_of Etc2Rgb = rgb_pixel
shows_of Etc2Rgba1 = rgba1_pixel
shows_of Etc2Rgba8 = rgba8_pixel
shows_of EacR = red_pixel false
shows_of EacRSigned = red_pixel true
shows_of EacRg = red_green_pixel false
shows_of EacRgSigned = red_green_pixel true
shows_of Bc1 = bc1_pixel false false
shows_of Bc1Alpha = bc1_pixel false true
shows_of Bc3 = bc3_pixel
shows_of Bc7 = bc7_pixel
shows_of Bc2 = bc2_pixel
shows_of Bc4 = bc4_pixel false
shows_of Bc4Signed = bc4_pixel true
shows_of Bc5 = bc5_pixel false
shows_of Bc5Signed = bc5_pixel true
