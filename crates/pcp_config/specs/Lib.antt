pub mod ConfigTables
pub mod ConfigTexts
pub mod TomlValues
