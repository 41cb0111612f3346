-- What the contracts of list_address cite. Who believes `Address` and `Https` believes what stands behind them in
-- `Host`, `Decimal`, `Parts`, `Runs` and `Chars`. `Meaning` is the draft's sentence, and `Facts` is for private
-- functions.
pub mod Chars
pub mod Runs
pub mod Decimal
pub mod Parts
pub mod Host
pub mod Address
pub mod Https
pub mod Meaning
pub mod Facts
