pub mod ConvertCall
