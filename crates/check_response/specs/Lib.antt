-- When a response is valid, and what it then says (draft 19, 5.4; document 01; requests P4 and P9): what a reader must
-- believe is Window, Downgrade and Check. Passes is document 01's sentence, with P4's lines, proved to hold, of packets
-- of bytes, exactly where no code of Check applies.
pub mod Window
pub mod Downgrade
pub mod Check
pub mod Passes
