-- The rules, in document 01's order. Read them from the top; nothing here is proved, and nothing else has to be believed.
-- Document 01's own sentences stand in quotes above the definitions that they become.
pub mod Notation
-- what the viewer reads
pub mod Pixel
pub mod Places
-- when the reader says no
pub mod Answers
-- the colour block
pub mod Colour
pub mod Modes
-- alpha and single channels
pub mod Channels
-- BC1 and BC3, of document 02, and BC2; BC4 and BC5
pub mod Desktop
pub mod Rgtc
-- bits, and BC7, of document 02
pub mod Bits
pub mod Bptc
pub mod Bc7
-- the formats, and what every reader owes its caller
pub mod Formats
pub mod Guards
pub mod Readers
-- document 02: which kinds of blocks a picture has
pub mod Census
-- sheets, of document 02
pub mod Records
pub mod Sheets
-- pictures in pieces, of document 02
pub mod Pieces
-- from colour to degrees, of document 02
pub mod Floats
pub mod Degrees
-- the checker and the baker of ETC1 blocks, of document 02
pub mod Counting
pub mod Checking
pub mod Baking
-- all eleven bits of EAC, of document 02
pub mod Whole
-- what an older viewer shows wrong
pub mod Older
-- files: PKM, KTX 1, KTX 2, DDS and sheets
pub mod FileFormats
pub mod FileLevels
pub mod Keys
pub mod Pkm
pub mod Ktx1
pub mod Ktx2
pub mod Dds
pub mod SheetFile
pub mod Files
