-- What json_text's contracts cite: the text that a string holds, as octets, and how many they are.
pub mod Octets
pub mod Facts
